use Rattle.std.proofs.Common.{◌≡◌, ◌-◌, ◌++◌, ◌≤◌, ℕ, List, [], ◌∷◌, length, replicate, refl, arith, sym, subst}
use borrow.Rule.Slice.PartMut.{put_mid}
use Rattle.tape_making.proofs.number.padded.Goals as goal

abbrev zeros : List ℕ
zeros = 48 ∷ (48 ∷ (48 ∷ (48 ∷ (48 ∷ (48 ∷ [])))))

-- six zeros, of which the last ones give place to the text
filled : (text : List ℕ) → length text ≤ 6 → put_mid (6 - length text) (6 - (6 - length text)) zeros text ≡ replicate (6 - length text) 48 ++ text
filled [] few = refl
filled (a ∷ []) few = refl
filled (a ∷ (b ∷ [])) few = refl
filled (a ∷ (b ∷ (c ∷ []))) few = refl
filled (a ∷ (b ∷ (c ∷ (d ∷ [])))) few = refl
filled (a ∷ (b ∷ (c ∷ (d ∷ (e ∷ []))))) few = refl
filled (a ∷ (b ∷ (c ∷ (d ∷ (e ∷ (f ∷ [])))))) few = refl
filled (a ∷ (b ∷ (c ∷ (d ∷ (e ∷ (f ∷ (g ∷ more))))))) few = absurd (omega arith)

pub returns : goal.returns
returns c =
    let text : List ℕ = c.args.text.now in
    subst (λ (new : List ℕ). put_mid (6 - length text) (6 - (6 - length text)) zeros new ≡ replicate (6 - length text) 48 ++ text) (sym c.copy_from_slice.ensures.after) (filled text c.requires)
