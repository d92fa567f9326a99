use Rattle.std.proofs.Common.{rules, ◌≡◌, ℕ, ◌+◌, ◌-◌, ◌%◌, ◌<◌, List, [], ◌++◌, length, take, drop, ap, ◌∙◌, sym, subst, arith}
use Rattle.std.proofs.lemmas.List.{length-take-le}
use Rattle.std.proofs.lemmas.Result.{err_from_is_err_and}
use Rattle.tape_values.specs.Block.{framed}
use Rattle.tape_blocks.specs.Refusal.{address_of}
use Rattle.tape_blocks.specs.Head.{SaysCount}
use Rattle.tape_blocks.proofs.Heads.{AreBytes, IsFramedAs}
use Rattle.tape_blocks.proofs.Joined.{IsCounted, IsWhole, header_fails, header_short, body_short, bad_sum, framed_block, past_end}
use Rattle.tape_blocks.proofs.head.head_of.Goals as goal
use Rattle.tape_blocks.proofs.head.head_of.Goals.{In-Some, After-read_u16-address}

counted : (c : In-Some) → IsCounted c.args.at c.args.header.now c.args.body.now c.in-Some.count
counted c = record { split = c.requires.split; says = subst (SaysCount c.args.at c.args.header.now) c.in-Some.is c.in_ok-count.ensures }

whole : (c : In-Some) → c.in-Some.count - 6 < length c.args.body.now → IsWhole c.args.at c.args.header.now c.args.body.now c.in-Some.count
whole c more = record { counted = counted c; whole = omega arith }

sums : (a b x y : ℕ) → a ≡ x % 256 → b ≡ y % 256 → (a + b) % 256 ≡ (x % 256 + y % 256) % 256
sums a b x y e f = ap (λ n. (n + b) % 256) e ∙ ap (λ n. (x % 256 + n) % 256) f

pub returns-in_err-count : goal.returns-in_err-count
returns-in_err-count c =
    let p = err_from_is_err_and c.from_residual.result c.from_residual.ensures.1 in
    rw (p.1, p.2) (header_fails c.args.at c.args.header.now c.args.body.now _ c.requires.no_blank c.in_err-count.ensures)

pub returns-in_default : goal.returns-in_default
returns-in_default c =
    header_short c.args.at c.args.header.now c.args.body.now c.requires.no_blank c.requires.split
    (subst (SaysCount c.args.at c.args.header.now) c.in_default.is c.in_ok-count.ensures)

pub overflow_sub-length : goal.overflow_sub-length
overflow_sub-length c = let h = counted ((goal.at.overflow_sub-length c).In-Some) in let e = h.says.enough in omega arith

pub returns-then-body-length : goal.returns-then-body-length
returns-then-body-length c =
    body_short c.args.at c.args.header.now c.args.body.now c.in-Some.count c.requires.no_blank
    (counted ((goal.at.returns-then-body-length c).In-Some)) c.if-body-length.true

pub returns-then-byte_sum-ne0 : goal.returns-then-byte_sum-ne0
returns-then-byte_sum-ne0 c =
    rw c.new.ensures
    (bad_sum c.args.at c.args.header.now c.args.body.now c.in-Some.count c.requires.no_blank
    (whole ((goal.at.returns-then-byte_sum-ne0 c).In-Some) c.if-body-length.false)
    (λ e. c.if-byte_sum-ne0.true (sums _ _ _ _ c.byte_sum.ensures c.byte_sum-2.ensures ∙ e)))

-- the block in front, but for its end
framed_here : (c : After-read_u16-address) → IsFramedAs (c.args.header.now ++ c.args.body.now) c.read_u16-address.result (take (c.in-Some.count - 6) c.args.body.now)
framed_here c =
    let are_header : AreBytes c.args.header.now = λ i. omega (arith, c.type_inv.header i) in
    let are_body : AreBytes c.args.body.now = λ i. omega (arith, c.type_inv.body i) in
    let address : c.read_u16-address.result ≡ address_of c.args.header.now = search rules in
    framed_block c.args.at c.args.header.now c.args.body.now c.in-Some.count c.read_u16-address.result are_header are_body
    (whole ((goal.at.After-read_u16-address c).In-Some) c.if-body-length.false)
    (sym (sums _ _ _ _ c.byte_sum.ensures c.byte_sum-2.ensures) ∙ c.if-byte_sum-ne0.false) address

pub returns-then-length-eq0 : goal.returns-then-length-eq0
returns-then-length-eq0 c =
    let text : List ℕ = c.args.header.now ++ c.args.body.now in
    let g = framed_here ((goal.at.returns-then-length-eq0 c).After-read_u16-address) in
    let bytes : List ℕ = take (c.in-Some.count - 6) c.args.body.now in
    let none : bytes ≡ [] = ap (λ n. take n c.args.body.now) c.if-length-eq0.true in
    (g.word, subst (λ bs. text ≡ framed c.read_u16-address.result bs ++ drop (7 + length bs) text) none g.joined)

pub returns-then-from-length-gt-TOP : goal.returns-then-from-length-gt-TOP
returns-then-from-length-gt-TOP c =
    let address : c.read_u16-address.result ≡ address_of c.args.header.now = search rules in
    let some : c.in-Some.count - 6 ≡ 0 → ⊥ = c.if-length-eq0.false in
    let from : c.from.result ≡ c.read_u16-address.result = c.from.ensures in
    rw c.new-then-from-length-gt-TOP.ensures
    (past_end c.args.at c.args.header.now c.args.body.now c.in-Some.count c.read_u16-address.result c.requires.no_blank
    (whole ((goal.at.returns-then-from-length-gt-TOP c).In-Some) c.if-body-length.false)
    (sym (sums _ _ _ _ c.byte_sum.ensures c.byte_sum-2.ensures) ∙ c.if-byte_sum-ne0.false) address (omega arith) (omega arith))

pub returns : goal.returns
returns c =
    let g = framed_here ((goal.at.returns c).After-read_u16-address) in
    let l : length (take (c.in-Some.count - 6) c.args.body.now) ≡ c.in-Some.count - 6 = length-take-le (c.in-Some.count - 6) c.args.body.now (omega arith) in
    let some : c.in-Some.count - 6 ≡ 0 → ⊥ = c.if-length-eq0.false in
    let from : c.from.result ≡ c.read_u16-address.result = c.from.ensures in
    (record { not_empty = omega arith; below_top = omega arith }, g.each_byte, g.joined)
