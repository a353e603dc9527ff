-- Laws of runs: blocks one after the other as one list of bytes, its parts, and a block replaced.
use mathlib.Core.Path.{◌≡◌, refl, sym, ap, ◌∙◌}
use mathlib.Core.List.{List, [], ◌∷◌, ◌++◌, append_assoc, append-nil}
use Prim.Native.Nat.{ℕ, zero, suc, ◌+◌, ◌*◌, ◌≤◌, ◌<◌}
use native.Mathlib.Omega.{arith}
use native.Mathlib.Nat.{add-zero, add_assoc}
use lib.ListN.{length, take, drop, get_or, set, length-append, length-drop, take-append-drop}
use lib.Seq.{take-append-le, drop-append-le, take-append-add, drop-append-add, drop-drop, take-add, length-take-le, take_all}
use Rattle.blocks.specs.Bytes.{splice, part}
use Rattle.blocks.proofs.ByteLaws.{splice_whole, length_splice, length_part}
use Rattle.pieces.specs.Span.{run_of}

-- a splice behind, or inside, the first of two lists
pub splice_append : (x r : List ℕ) (a : ℕ) (d : List ℕ) → splice (x ++ r) (length x + a) d ≡ x ++ splice r a d
unfolding splice
splice_append x r a d =
    rw (take-append-add x r a, add_assoc (length x) a (length d), drop-append-add x r (a + length d), append_assoc x (take a r) d, append_assoc x (take a r ++ d) (drop (a + length d) r))

splice_left : (x r : List ℕ) (a : ℕ) (d : List ℕ) → a + length d ≤ length x → splice (x ++ r) a d ≡ splice x a d ++ r
unfolding splice
splice_left x r a d h = rw (take-append-le a x r (omega arith), drop-append-le (a + length d) x r h, append_assoc (take a x ++ d) (drop (a + length d) x) r)

-- the first of two lists replaced
splice_first : (x r d : List ℕ) → length d ≡ length x → splice (x ++ r) 0 d ≡ d ++ r
splice_first x r d e = splice_left x r 0 d (omega arith) ∙ ap (λ (l : List ℕ). l ++ r) (splice_whole x d e)

-- nothing put in
pub splice_none : (c : List ℕ) (a : ℕ) → splice c a [] ≡ c
unfolding splice
splice_none c a = rw (append-nil, add-zero) (take-append-drop a c)

-- a part changed and put back
parts : (c : List ℕ) (b m : ℕ) → c ≡ take b c ++ (part c b m ++ drop (b + m) c)
parts c b m = sym (rw (← (drop-drop m b c), take-append-drop m (drop b c)) (take-append-drop b c))

pub splice_inside : (c : List ℕ) (b m a : ℕ) (d : List ℕ) → b + m ≤ length c → a + length d ≤ m → splice c b (splice (part c b m) a d) ≡ splice c (b + a) d
splice_inside c b m a d h k =
    let p = take b c in
    let q = part c b m in
    let r = drop (b + m) c in
    let lp : length p ≡ b = length-take-le b c (omega arith) in
    let lq : length q ≡ m = length_part c b m h in
    let ls : length (splice q a d) ≡ length q = length_splice q a d (omega arith) in
    ap (λ (l : List ℕ). splice l b (splice q a d)) (parts c b m)
    ∙ ap (λ (n : ℕ). splice (p ++ (q ++ r)) n (splice q a d)) (sym (add-zero (length p) ∙ lp))
    ∙ splice_append p (q ++ r) 0 (splice q a d)
    ∙ ap (λ (l : List ℕ). p ++ l) (splice_first q r (splice q a d) ls ∙ sym (splice_left q r a d (omega arith)))
    ∙ sym (splice_append p (q ++ r) a d)
    ∙ ap (λ (n : ℕ). splice (p ++ (q ++ r)) (n + a) d) lp
    ∙ ap (λ (l : List ℕ). splice l (b + a) d) (sym (parts c b m))

-- the next part after a part
pub parts_join : (c : List ℕ) (o d k : ℕ) → part c o d ++ part c (o + d) k ≡ part c o (d + k)
parts_join c o d k = rw (take-add d k (drop o c), drop-drop d o c)

-- every block of a list has 512 bytes
abbrev pub Whole : List (List ℕ) → Type 0
Whole blocks = (l : ℕ) → l < length blocks → length (get_or blocks l []) ≡ 512

whole_tail : (x : List ℕ) (xs : List (List ℕ)) → Whole (x ∷ xs) → Whole xs
whole_tail x xs h l k = h (suc l) (omega arith)

pub run_length : (blocks : List (List ℕ)) → Whole blocks → length (run_of blocks) ≡ 512 * length blocks
unfolding run_of
run_length [] h = refl
run_length (x ∷ xs) h = omega (arith, length-append x (run_of xs), h 0 (omega arith), run_length xs (whole_tail x xs h))

-- a part inside one block is a part of that block
pub part_block : (blocks : List (List ℕ)) → Whole blocks → (l : ℕ) → l < length blocks → (a n : ℕ) → a + n ≤ 512 → part (run_of blocks) (512 * l + a) n ≡ part (get_or blocks l []) a n
unfolding run_of
part_block [] h l k a n f = absurd (omega arith)
part_block (x ∷ xs) h zero k a n f =
    let lx : length x ≡ 512 = h 0 (omega arith) in
    let e : 512 * 0 + a ≡ a = omega arith in
    rw (e, drop-append-le a x (run_of xs) (omega arith)) (take-append-le n (drop a x) (run_of xs) (omega (arith, length-drop a x)))
part_block (x ∷ xs) h (suc l) k a n f =
    let lx : length x ≡ 512 = h 0 (omega arith) in
    let e : 512 * suc l + a ≡ length x + (512 * l + a) = omega arith in
    rw (e, drop-append-add x (run_of xs) (512 * l + a)) (part_block xs (whole_tail x xs h) l (omega arith) a n f)

pub block_part : (blocks : List (List ℕ)) → Whole blocks → (l : ℕ) → l < length blocks → part (run_of blocks) (512 * l) 512 ≡ get_or blocks l []
block_part blocks h l k =
    let e : 512 * l ≡ 512 * l + 0 = omega arith in
    ap (λ (n : ℕ). part (run_of blocks) n 512) e ∙ part_block blocks h l k 0 512 (omega arith) ∙ take_all 512 (get_or blocks l []) (omega (arith, h l k))

-- a block replaced
pub run_set : (blocks : List (List ℕ)) → Whole blocks → (l : ℕ) → l < length blocks → (x : List ℕ) → length x ≡ 512 → run_of (set blocks l x) ≡ splice (run_of blocks) (512 * l) x
unfolding run_of
run_set [] h l k x e = absurd (omega arith)
run_set (y ∷ ys) h zero k x e = sym (splice_first y (run_of ys) x (e ∙ sym (h 0 (omega arith))))
run_set (y ∷ ys) h (suc l) k x e =
    let ly : length y ≡ 512 = h 0 (omega arith) in
    let f : 512 * suc l ≡ length y + 512 * l = omega arith in
    rw (f, run_set ys (whole_tail y ys h) l (omega arith) x e) (sym (splice_append y (run_of ys) (512 * l) x))

pub whole_set : (blocks : List (List ℕ)) → Whole blocks → (l : ℕ) (x : List ℕ) → length x ≡ 512 → Whole (set blocks l x)
whole_set [] h l x e i k = absurd (omega arith)
whole_set (y ∷ ys) h zero x e zero k = e
whole_set (y ∷ ys) h zero x e (suc i) k = h (suc i) k
whole_set (y ∷ ys) h (suc l) x e zero k = h 0 (omega arith)
whole_set (y ∷ ys) h (suc l) x e (suc i) k = whole_set ys (whole_tail y ys h) l x e i (omega arith)
