-- Steps that leave each file but one as it is.
use Rattle.std.proofs.Common.{◌≡◌, ℕ, ◌∙◌, sym, ap, subst, refl, List, [], ◌∷◌, ◌++◌, Bool, true, false, Option}
use Rattle.host_devices.proofs.Told.{tells_join}
use Rattle.host_devices.specs.Told.{HasAsked, Tells}
use Rattle.record_file.specs.DiskStep.{DiskStep, Did, Failed, FindFile, Open, Hold, Link, Rename, Remove, Cut, AreAside, LeaveAllBut, held_behind}
use Rattle.record_file.specs.declared.disk.Access.TheVariants.{ReadOnly, ReadWrite, New, Created}

pub both_but : (own : List ℕ) (held : Bool) (xs ys : List DiskStep) → LeaveAllBut own held xs → LeaveAllBut own (held_behind held xs) ys → LeaveAllBut own held (xs ++ ys)
both_but own held [] ys first then = then
both_but own held (Did (Open New n) ∷ xs) ys first then = (first.0, both_but own false xs ys first.1 then)
both_but own held (Did (Open Created n) ∷ xs) ys first then = absurd first
both_but own held (Did (Open ReadWrite n) ∷ xs) ys first then = (first.0, both_but own held xs ys first.1 then)
both_but own held (Did (Open access n) ∷ xs) ys first then = both_but own false xs ys first then
both_but own held (Did (Hold n) ∷ xs) ys first then = (first.0, both_but own true xs ys first.1 then)
both_but own held (Did (Link from to) ∷ xs) ys first then = absurd first
both_but own held (Did (Rename from to left) ∷ xs) ys first then = absurd first
both_but own held (Did (Remove n) ∷ xs) ys first then = (first.0, first.1, both_but own false xs ys first.2 then)
both_but own held (Did (Cut wrote n) ∷ xs) ys first then = absurd first
both_but own held (Failed (Remove n) ∷ xs) ys first then = both_but own false xs ys first then
both_but own held (Failed (FindFile n wrote) ∷ xs) ys first then = both_but own false xs ys first then
both_but own held (x ∷ xs) ys first then = both_but own held xs ys first then

held_join : (held : Bool) (xs ys : List DiskStep) → held_behind held (xs ++ ys) ≡ held_behind (held_behind held xs) ys
held_join held [] ys = refl
held_join held (Did (Open ReadWrite n) ∷ xs) ys = held_join held xs ys
held_join held (Did (Open access n) ∷ xs) ys = held_join false xs ys
held_join held (Did (Hold n) ∷ xs) ys = held_join true xs ys
held_join held (Did (Remove n) ∷ xs) ys = held_join false xs ys
held_join held (Failed (Remove n) ∷ xs) ys = held_join false xs ys
held_join held (Failed (FindFile n wrote) ∷ xs) ys = held_join false xs ys
held_join held (x ∷ xs) ys = held_join held xs ys

-- what is held behind steps is held behind them whatever was held before
held_more : (held : Bool) (xs : List DiskStep) → held_behind false xs ≡ true → held_behind held xs ≡ true
held_more held [] is = absurd (cc is)
held_more held (Did (Open ReadWrite n) ∷ xs) is = held_more held xs is
held_more held (Did (Open access n) ∷ xs) is = is
held_more held (Did (Hold n) ∷ xs) is = is
held_more held (Did (Remove n) ∷ xs) is = is
held_more held (Failed (Remove n) ∷ xs) is = is
held_more held (Failed (FindFile n wrote) ∷ xs) is = is
held_more held (x ∷ xs) is = held_more held xs is

pub both_aside : (own : List ℕ) (two : Bool) (xs ys : List DiskStep) → AreAside own false xs → AreAside own two ys → AreAside own two (xs ++ ys)
both_aside own two xs ys p q =
    ((λ held. both_but own held xs ys (p.0 held) (q.0 (held_behind held xs))), held_join false xs ys ∙ ap (λ held. held_behind held ys) p.1 ∙ q.1)

-- behind a file that is held
abbrev pub GoesHeld : List ℕ → List DiskStep → Type 0
GoesHeld own steps = LeaveAllBut own true steps × (held_behind true steps ≡ false)

pub held_but : (own : List ℕ) (xs ys : List DiskStep) → LeaveAllBut own false xs × (held_behind false xs ≡ true) → GoesHeld own ys
    → LeaveAllBut own false (xs ++ ys) × (held_behind false (xs ++ ys) ≡ false)
held_but own xs ys p q =
    (both_but own false xs ys p.0 (subst (λ h. LeaveAllBut own h ys) (sym p.1) q.0), held_join false xs ys ∙ ap (λ held. held_behind held ys) p.1 ∙ q.1)

-- so, whatever was held before
pub held_aside : (own : List ℕ) (xs ys : List DiskStep) → AreAside own true xs → GoesHeld own ys → AreAside own false (xs ++ ys)
held_aside own xs ys p q = (
  (λ held. both_but own held xs ys (p.0 held) (subst (λ h. LeaveAllBut own h ys) (sym (held_more held xs p.1)) q.0)),
  held_join false xs ys ∙ ap (λ h. held_behind h ys) p.1 ∙ q.1,
)

pub but_join : (own : List ℕ) (two : Bool) (a b c : Option (List DiskStep)) → HasAsked a b (AreAside own false) → HasAsked b c (AreAside own two) → HasAsked a c (AreAside own two)
but_join own two a b c p q = (p.0 ++ q.0, tells_join a b c p.0 q.0 p.1 q.1, both_aside own two p.0 q.0 p.2 q.2)

pub at_folder : (own folder : List ℕ) (b c : Option (List DiskStep)) → Tells b c (Did (Open ReadOnly folder) ∷ []) → HasAsked b c (AreAside own false)
at_folder own folder b c t = (Did (Open ReadOnly folder) ∷ [], t, ((λ held. tt), refl))
