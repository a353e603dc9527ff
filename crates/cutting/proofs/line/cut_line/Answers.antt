-- `cut_line` meets its contract, by the words that `split` gives.
use Rattle.std.proofs.Common.{◌≡◌, [], ◌∷◌, rules, tests}
use borrow.Author.Tests.{lt-ltb, le-ltb}
use Rattle.cutter.specs.Grammar.{line_of, line_of_words, words_of}
use Rattle.cutter.proofs.WordLaws.{left, all_left, next_word, no_word}
use Rattle.cutting.proofs.line.cut_line.Goals as goal

pub returns-then-line-gt-MOST_LINE : goal.returns-then-line-gt-MOST_LINE
unfolding line_of
returns-then-line-gt-MOST_LINE c = rw (lt-ltb 127 _ c.if-line-gt-MOST_LINE.true)

pub returns-in_default : goal.returns-in_default
unfolding line_of line_of_words
returns-in_default c =
    let all = all_left c.split-words.result c.args.line.now c.split-words.ensures.rest c.split-words.ensures.done in
    let w1 = next_word _ c.split-words.result c.next.new.self c.in_ok-op.op c.in_ok-op.ensures.steps (λ f a r q k. search (rules, tests)) in
    let end = no_word c.next.new.self c.next-2.new.self c.in_default.ensures.steps in
    let words : words_of c.args.line.now ≡ c.in_ok-op.op.now ∷ [] = cc in
    rw (le-ltb 127 _ c.if-line-gt-MOST_LINE.false, words) c.cut_one.ensures

pub returns-in_default-next : goal.returns-in_default-next
unfolding line_of line_of_words
returns-in_default-next c =
    let all = all_left c.split-words.result c.args.line.now c.split-words.ensures.rest c.split-words.ensures.done in
    let w1 = next_word _ c.split-words.result c.next.new.self c.in_ok-op.op c.in_ok-op.ensures.steps (λ f a r q k. search (rules, tests)) in
    let w2 = next_word _ c.next.new.self c.next-2.new.self c.in-Some.a c.in-Some.ensures.steps (λ f a r q k. search (rules, tests)) in
    let end = no_word c.next-2.new.self c.next-3.new.self c.in_default-next.ensures.steps in
    let words : words_of c.args.line.now ≡ c.in_ok-op.op.now ∷ c.in-Some.a.now ∷ [] = cc in
    rw (le-ltb 127 _ c.if-line-gt-MOST_LINE.false, words) c.cut_two.ensures

pub returns-in_default-next-2 : goal.returns-in_default-next-2
unfolding line_of line_of_words
returns-in_default-next-2 c =
    let all = all_left c.split-words.result c.args.line.now c.split-words.ensures.rest c.split-words.ensures.done in
    let w1 = next_word _ c.split-words.result c.next.new.self c.in_ok-op.op c.in_ok-op.ensures.steps (λ f a r q k. search (rules, tests)) in
    let w2 = next_word _ c.next.new.self c.next-2.new.self c.in-Some.a c.in-Some.ensures.steps (λ f a r q k. search (rules, tests)) in
    let w3 = next_word _ c.next-2.new.self c.next-3.new.self c.in-Some-next.b c.in-Some-next.ensures.steps (λ f a r q k. search (rules, tests)) in
    let end = no_word c.next-3.new.self c.next-4.new.self c.in_default-next-2.ensures.steps in
    let words : words_of c.args.line.now ≡ c.in_ok-op.op.now ∷ c.in-Some.a.now ∷ c.in-Some-next.b.now ∷ [] = cc in
    rw (le-ltb 127 _ c.if-line-gt-MOST_LINE.false, words) c.cut_three.ensures

pub returns-in_err-d : goal.returns-in_err-d
unfolding line_of line_of_words
returns-in_err-d c =
    let all = all_left c.split-words.result c.args.line.now c.split-words.ensures.rest c.split-words.ensures.done in
    let w1 = next_word _ c.split-words.result c.next.new.self c.in_ok-op.op c.in_ok-op.ensures.steps (λ f a r q k. search (rules, tests)) in
    let w2 = next_word _ c.next.new.self c.next-2.new.self c.in-Some.a c.in-Some.ensures.steps (λ f a r q k. search (rules, tests)) in
    let w3 = next_word _ c.next-2.new.self c.next-3.new.self c.in-Some-next.b c.in-Some-next.ensures.steps (λ f a r q k. search (rules, tests)) in
    let w4 = next_word _ c.next-3.new.self c.next-4.new.self c.in-Some-next-2.c c.in-Some-next-2.ensures.steps (λ f a r q k. search (rules, tests)) in
    let end = no_word c.next-4.new.self c.next-5.new.self c.in_err-d.ensures.steps in
    let words : words_of c.args.line.now ≡ c.in_ok-op.op.now ∷ c.in-Some.a.now ∷ c.in-Some-next.b.now ∷ c.in-Some-next-2.c.now ∷ [] = cc in
    rw (le-ltb 127 _ c.if-line-gt-MOST_LINE.false, words) c.from_residual-in_err-d.ensures

pub returns-in-None : goal.returns-in-None
unfolding line_of line_of_words
returns-in-None c =
    let all = all_left c.split-words.result c.args.line.now c.split-words.ensures.rest c.split-words.ensures.done in
    let w1 = next_word _ c.split-words.result c.next.new.self c.in_ok-op.op c.in_ok-op.ensures.steps (λ f a r q k. search (rules, tests)) in
    let w2 = next_word _ c.next.new.self c.next-2.new.self c.in-Some.a c.in-Some.ensures.steps (λ f a r q k. search (rules, tests)) in
    let w3 = next_word _ c.next-2.new.self c.next-3.new.self c.in-Some-next.b c.in-Some-next.ensures.steps (λ f a r q k. search (rules, tests)) in
    let w4 = next_word _ c.next-3.new.self c.next-4.new.self c.in-Some-next-2.c c.in-Some-next-2.ensures.steps (λ f a r q k. search (rules, tests)) in
    let w5 = next_word _ c.next-4.new.self c.next-5.new.self c.in_ok-d.d c.in_ok-d.ensures.steps (λ f a r q k. search (rules, tests)) in
    let end = no_word c.next-5.new.self c.next-6.new.self c.in-None.ensures.steps in
    let words : words_of c.args.line.now ≡ c.in_ok-op.op.now ∷ c.in-Some.a.now ∷ c.in-Some-next.b.now ∷ c.in-Some-next-2.c.now ∷ c.in_ok-d.d.now ∷ [] = cc in
    rw (le-ltb 127 _ c.if-line-gt-MOST_LINE.false, words) c.cut_five.ensures

pub returns-in-Some-next-3 : goal.returns-in-Some-next-3
unfolding line_of line_of_words
returns-in-Some-next-3 c =
    let all = all_left c.split-words.result c.args.line.now c.split-words.ensures.rest c.split-words.ensures.done in
    let w1 = next_word _ c.split-words.result c.next.new.self c.in_ok-op.op c.in_ok-op.ensures.steps (λ f a r q k. search (rules, tests)) in
    let w2 = next_word _ c.next.new.self c.next-2.new.self c.in-Some.a c.in-Some.ensures.steps (λ f a r q k. search (rules, tests)) in
    let w3 = next_word _ c.next-2.new.self c.next-3.new.self c.in-Some-next.b c.in-Some-next.ensures.steps (λ f a r q k. search (rules, tests)) in
    let w4 = next_word _ c.next-3.new.self c.next-4.new.self c.in-Some-next-2.c c.in-Some-next-2.ensures.steps (λ f a r q k. search (rules, tests)) in
    let w5 = next_word _ c.next-4.new.self c.next-5.new.self c.in_ok-d.d c.in_ok-d.ensures.steps (λ f a r q k. search (rules, tests)) in
    let w6 = next_word _ c.next-5.new.self c.next-6.new.self c.in-Some-next-3.field-0 c.in-Some-next-3.ensures.steps (λ f a r q k. search (rules, tests)) in
    let words : words_of c.args.line.now ≡ c.in_ok-op.op.now ∷ c.in-Some.a.now ∷ c.in-Some-next.b.now ∷ c.in-Some-next-2.c.now ∷ c.in_ok-d.d.now ∷ c.in-Some-next-3.field-0.now ∷ left (c.next-6.new.self) = cc in
    rw (le-ltb 127 _ c.if-line-gt-MOST_LINE.false, words)
