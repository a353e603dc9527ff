-- `put_decimal` meets its contract: the digits of a tenth stand before the last one.
use Rattle.std.proofs.Common.{arith}
use Rattle.printing.proofs.TextLaws.{put_one, put_more, tenth_length}
use Rattle.printing.proofs.text.Text.+put_decimal.Goals as goal

pub put_digit-requires-else-v-lt10 : goal.put_digit-requires-else-v-lt10
put_digit-requires-else-v-lt10 t c =
    let long = tenth_length c.args.v c.if-v-lt10.false c.ranges.v.fits in
    (omega arith, omega (arith, c.requires, c.put_decimal.ensures.value.0, c.put_decimal.ensures.lent.1, long))

pub returns-then-v-lt10-clause-value : goal.returns-then-v-lt10-clause-value
returns-then-v-lt10-clause-value t c = put_one _ _ _ c.if-v-lt10.true _ _ c.put_digit.ensures.value

pub returns-else-v-lt10-clause-value : goal.returns-else-v-lt10-clause-value
returns-else-v-lt10-clause-value t c =
    let long = tenth_length c.args.v c.if-v-lt10.false c.ranges.v.fits in
    let p = c.put_decimal.ensures.value in
    let q = c.put_digit-else-v-lt10.ensures.value in
    put_more _ _ _ c.if-v-lt10.false c.ranges.v.fits _ _ _ _ p q (omega (arith, c.requires, p.0, q.0, long))

pub returns-else-v-lt10-clause-upper_bound : goal.returns-else-v-lt10-clause-upper_bound
returns-else-v-lt10-clause-upper_bound t c =
    let long = tenth_length c.args.v c.if-v-lt10.false c.ranges.v.fits in
    omega (arith, c.put_decimal.ensures.value.0, c.put_digit-else-v-lt10.ensures.value.0, long)
