-- A text says one thing.
use Rattle.std.proofs.Common.{◌≡◌, ℕ, ◌+◌, suc, List, [], ◌∷◌, ◌++◌, length, arith, ap, sym, refl, ◌∙◌, subst, ⊎_elim, Result, Ok, Err, Option}
use Rattle.std.specs.List.{flat_map}
use Rattle.std.specs.Option.{option_to_list}
use Rattle.tape_values.specs.Block.{BlockValue}
use Rattle.tape_making.specs.declared.refusal.WordsWhy.{WordsWhy}
use Rattle.tape_making.specs.declared.refusal.Refusal.{Refusal}
use Rattle.tape_making.specs.Words.{AllSay, Says, HasRows, IsWrongLine, IsReading, lines}
use Rattle.tape_making.proofs.Zips.{zip_same}
use Rattle.tape_making.proofs.Lines.{says_one, not_both}
use Rattle.tape_making.proofs.Readings.{says_so}

row_one : (line : List ℕ) (a b : Option BlockValue) → says_so line a → says_so line b → a ≡ b
row_one line a b is also = let same : Ok a ≡ Ok b = says_one line (Ok a) (Ok b) is also in cc

-- lines of which one is wrong say nothing
none_wrong : (xs : List (List ℕ)) (x : List ℕ) (more : List (List ℕ)) (said : List (Option BlockValue)) (why : WordsWhy) → AllSay (xs ++ x ∷ more) said → Says x (Err why) → ⊥
none_wrong [] x more [] why are wrong = are
none_wrong [] x more (s ∷ said) why are wrong = not_both x s why are.0 wrong
none_wrong (z ∷ xs) x more [] why are wrong = are
none_wrong (z ∷ xs) x more (s ∷ said) why are wrong = none_wrong xs x more said why are.1 wrong

-- the first wrong one of some lines
one_wrong : (xs ys : List (List ℕ)) (x y : List ℕ) (more others : List (List ℕ)) (a b : List (Option BlockValue)) (v w : WordsWhy) → xs ++ x ∷ more ≡ ys ++ y ∷ others
    → AllSay xs a → AllSay ys b → Says x (Err v) → Says y (Err w) → (length xs ≡ length ys) × (v ≡ w)
one_wrong [] [] x y more others a b v w same are also wrong wrong_too =
    let head : x ≡ y = cc in
    (refl, let why : Err v ≡ Err w = says_one y (Err v) (Err w) (subst (λ l. Says l (Err v)) head wrong) wrong_too in cc)
one_wrong [] (z ∷ ys) x y more others a [] v w same are also wrong wrong_too = absurd also
one_wrong [] (z ∷ ys) x y more others a (s ∷ b) v w same are also wrong wrong_too =
    let head : x ≡ z = cc in absurd (not_both z s v also.0 (subst (λ l. Says l (Err v)) head wrong))
one_wrong (z ∷ xs) [] x y more others [] b v w same are also wrong wrong_too = absurd are
one_wrong (z ∷ xs) [] x y more others (s ∷ a) b v w same are also wrong wrong_too =
    let head : y ≡ z = cc in absurd (not_both z s w are.0 (subst (λ l. Says l (Err w)) head wrong_too))
one_wrong (z ∷ xs) (u ∷ ys) x y more others [] b v w same are also wrong wrong_too = absurd are
one_wrong (z ∷ xs) (u ∷ ys) x y more others (s ∷ a) [] v w same are also wrong wrong_too = absurd also
one_wrong (z ∷ xs) (u ∷ ys) x y more others (s ∷ a) (t ∷ b) v w same are also wrong wrong_too =
    let tail : xs ++ x ∷ more ≡ ys ++ y ∷ others = cc in
    let so = one_wrong xs ys x y more others a b v w tail are.1 also.1 wrong wrong_too in
    (ap suc so.0, so.1)

one_refusal : (text : List ℕ) (r s : Refusal) → IsWrongLine text r → IsWrongLine text s → r ≡ s
one_refusal text r s is also =
    let so = one_wrong is.before also.before is.wrong also.wrong is.after also.after is.said also.said r.why s.why (sym is.all ∙ also.all) is.each also.each is.why also.why in
    let line : r.line ≡ s.line = is.number ∙ ap (λ n. n + 1) so.0 ∙ sym also.number in
    λ i. record { line = line i; why = so.1 i }

not_rows : (text : List ℕ) (rows : List BlockValue) (r : Refusal) → HasRows text rows → IsWrongLine text r → ⊥
not_rows text rows r has is = none_wrong is.before is.wrong is.after has.said r.why (subst (λ ls. AllSay ls has.said) is.all has.each) is.why

pub one_meaning : (text : List ℕ) (said other : Result (List BlockValue) Refusal) → IsReading text said → IsReading text other → said ≡ other
one_meaning text (Ok a) (Ok b) is also =
    ap Ok (is.all ∙ ap (flat_map option_to_list) (zip_same says_so row_one (lines text) is.said also.said is.each also.each) ∙ sym also.all)
one_meaning text (Ok a) (Err s) is also = absurd (⊎_elim (λ long. let far = long.1 in let near = is.within in omega arith) (λ short. not_rows text a s is short.1) also)
one_meaning text (Err r) (Ok b) is also = absurd (⊎_elim (λ long. let far = long.1 in let near = also.within in omega arith) (λ short. not_rows text b r also short.1) is)
one_meaning text (Err r) (Err s) is also =
    ⊎_elim (λ long. ⊎_elim (λ long_too. ap Err (long.0 ∙ sym long_too.0)) (λ short. absurd (let far = long.1 in let near = short.0 in omega arith)) also)
    (λ short. ⊎_elim (λ long. absurd (let far = long.1 in let near = short.0 in omega arith)) (λ short_too. ap Err (one_refusal text r s short.1 short_too.1)) also) is
