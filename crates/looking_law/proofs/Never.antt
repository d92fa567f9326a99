-- What a host that looks was told to say has no `G` in it, whatever it heard.
use Rattle.std.proofs.Common.{◌≡◌, ℕ, ◌==◌, Bool, true, false, List, [], ◌∷◌, ◌++◌, inl, inr, refl, arith, ap, sym, subst, ◌∙◌}
use Rattle.std.specs.Prelude.{◌⊎◌, All, Contains}
use Rattle.std.proofs.lemmas.Bool.Decides.{nat_tests}
use Rattle.std.proofs.lemmas.List.Elements.{All-cons, All-nil, All-contains}
use Rattle.octal.specs.Octal.{is_digit}
use Rattle.line_world.specs.Promises.{EndsAtGo}
use Rattle.host_devices.specs.declared.item.Item.{Item}
use Rattle.host_devices.specs.declared.item.Item.TheVariants.{Sent, Heard as Came}
use Rattle.host_devices.specs.Dialogue.{keys_of}
use Rattle.reading_core.specs.Reader.{Manner, begun_in}
use Rattle.looking_law.specs.Belief.{dialogue}
use Rattle.looking_law.specs.Harmless.{IsLooking, OnlyLook}
use Rattle.looking_law.specs.RecordLook.{HasLookedAs}
use Rattle.looking_law.specs.Trying.{IsToldOf}
use Rattle.looking_law.proofs.Believed.{keys_of-dialogue}
use Rattle.looking_law.proofs.Looks.{replay_looks}
use Rattle.tape_image.specs.Plan.{PlanValue}
use Rattle.host_core.specs.declared.progress.Progress.{Progress}

-- none of these starts a program
abbrev pub Never : List ℕ → Type 0
Never [] = Unit {0}
Never (c ∷ keys) = (c ≡ 71 → ⊥) × Never keys

digit_not : (c : ℕ) → is_digit c ≡ true → (c == 71) ≡ false
digit_not c digit = grind (arith, nat_tests)

two_not : (c : ℕ) → (c ≡ 13) ⊎ (c ≡ 90) → c ≡ 71 → ⊥
two_not c (inl is) g = absurd (omega (arith, is, g))
two_not c (inr is) g = absurd (omega (arith, is, g))

three_not : (c : ℕ) → (c ≡ 47) ⊎ ((c ≡ 13) ⊎ (c ≡ 90)) → c ≡ 71 → ⊥
three_not c (inl is) g = absurd (omega (arith, is, g))
three_not c (inr more) g = two_not c more g

key_not : (c : ℕ) → (is_digit c ≡ true) ⊎ ((c ≡ 47) ⊎ ((c ≡ 13) ⊎ (c ≡ 90))) → c ≡ 71 → ⊥
key_not c (inl digit) g = absurd (clash (sym (digit_not c digit) ∙ ap (λ n. n == 71) g))
  where
    clash : false ≡ true → ⊥
    clash e = absurd (cc e)
key_not c (inr more) g = three_not c more g

looking_never : (slash : Bool) (c : ℕ) → IsLooking slash c → c ≡ 71 → ⊥
looking_never true c looks g = two_not c looks g
looking_never false c looks g = key_not c looks g

looks_never : (slash : Bool) (keys : List ℕ) → OnlyLook slash keys → Never keys
looks_never slash [] look = tt
looks_never slash (c ∷ keys) look = (looking_never slash c look.0, looks_never (c == 47) keys look.1)

front_never : (items : List Item) (key : ℕ) → Never (keys_of (items ++ Sent key ∷ [])) → Never (keys_of items)
front_never [] key never = tt
front_never (Sent c ∷ items) key never = (never.0, front_never items key never.1)
front_never (Came what ∷ items) key never = front_never items key never

told_never : (all told : List Item) → IsToldOf all told → Never (keys_of all) → Never (keys_of told)
told_never all told (inl whole) never = subst (λ items. Never (keys_of items)) (sym whole) never
told_never all told (inr (key, lacks)) never = front_never told key (subst (λ items. Never (keys_of items)) lacks never)

pub looked_never : (manner : Manner) (plan : PlanValue) (recorded : Progress) (looks : List Item) → HasLookedAs manner plan recorded looks → Never (keys_of looks)
looked_never manner plan recorded looks h =
    told_never (dialogue (begun_in manner h.addresses [] h.patience) h.heard) looks h.told
    (subst Never (sym (keys_of-dialogue h.heard (begun_in manner h.addresses [] h.patience)))
    (looks_never false _ (replay_looks false (begun_in manner h.addresses [] h.patience) h.heard (λ e. absurd (cc e)))))

pub never_ends : (keys : List ℕ) → Never keys → EndsAtGo keys
never_ends [] never = tt
never_ends (c ∷ keys) never = (λ g. absurd (never.0 g), never_ends keys never.1)

pub none_in : (keys : List ℕ) → Never keys → Contains keys 71 → ⊥
none_in keys never has = All-contains (λ c. c ≡ 71 → ⊥) keys 71 (all keys never) has refl
  where
    all : (keys : List ℕ) → Never keys → All (λ c. c ≡ 71 → ⊥) keys
    all [] never = All-nil (λ c. c ≡ 71 → ⊥)
    all (c ∷ keys) never = All-cons (λ c. c ≡ 71 → ⊥) c keys never.0 (all keys never.1)
