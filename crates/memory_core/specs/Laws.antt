-- What holds of a testing host over everything that it may ever hear: of whatever machine, with good memory or bad.
use Rattle.std.specs.Prelude.{◌≡◌, ◌≢◌, ℕ, ◌+◌, ◌≤◌, All, List, [], ◌∷◌, ◌++◌, length, map, option_to_list}
use Rattle.octal.specs.Octal.{octal_text}
use Rattle.host_core.specs.declared.heard.Heard.{Heard}
use Rattle.host_core.specs.declared.heard.Heard.TheVariants.{Got}
use Rattle.host_core.specs.Console.{carriage_return, slash, space}
use Rattle.memory_core.specs.declared.seen.Seen.{Seen}
use Rattle.memory_core.specs.declared.seen.Seen.TheVariants.{Unsteady, Tested}
use Rattle.memory_core.specs.declared.stage.Stage.{Stage}
use Rattle.memory_core.specs.declared.stage.Stage.TheVariants.{Unseen, Once, Turned, Returned}
use Rattle.memory_core.specs.Bound.{testing_bound}
use Rattle.memory_core.specs.MemoryTable.{IsTesting, ask}
use Rattle.memory_core.specs.Stage.{complement}
use Rattle.memory_core.specs.Tester.{Tester, address_under_way}

-- the tester that a list of heard things makes
abbrev pub led : Tester → List Heard → Tester
led t [] = t
led t (heard ∷ more) = led (ask t heard).next more

-- the characters that answer a list of heard things
abbrev pub replay : Tester → List Heard → List ℕ
replay t [] = []
replay t (heard ∷ more) = option_to_list (ask t heard).key ++ replay (ask t heard).next more

-- whatever is heard, this life sends no more characters than the bound, those that it has sent included
abbrev pub KeepsBound : Tester → Type 0
KeepsBound t = (heard : List Heard) → t.sent + length (replay t heard) ≤ testing_bound (length t.addresses) t.patience

-- whatever is heard, this life types digits, `/`, CR and `Z` alone
abbrev pub TypesOnlyTesting : Tester → Type 0
TypesOnlyTesting t = (heard : List Heard) → All IsTesting (replay t heard)

-- the last that was heard are the six octal digits of the number, and the space that a console prints behind a reading
abbrev pub WasRead : ℕ → List Heard → Type 0
WasRead value heard = (before : List Heard) × (heard ≡ before ++ map Got (octal_text value ++ space ∷ []))

-- the keys that open the word at an address: six digits and `/`
abbrev pub opens : ℕ → List ℕ
opens address = octal_text address ++ slash ∷ []

-- the keys that deposit a number there and then open the word again
abbrev pub deposits : ℕ → ℕ → List ℕ
deposits address number = opens address ++ octal_text number ++ carriage_return ∷ opens address

-- these were the last keys
abbrev pub EndsWith : List ℕ → List ℕ → Type 0
EndsWith keys typed = (before : List ℕ) × (typed ≡ before ++ keys)

-- what is known of the word at an address becomes more only by what was just read, where the last keys opened the word, or deposited
-- the complement there and opened it again; and what it held is what two looks read
abbrev pub StageIsHeard : ℕ → Stage → Stage → List Heard → List ℕ → Type 0
StageIsHeard address Unseen (Once first) heard typed = WasRead first heard × EndsWith (opens address) typed
StageIsHeard address (Once first) (Turned old) heard typed = (old ≡ first) × WasRead old heard × EndsWith (opens address) typed
StageIsHeard address (Turned old) (Returned old' turned) heard typed = (old' ≡ old) × WasRead turned heard × EndsWith (deposits address (complement old)) typed
StageIsHeard address before after heard typed = after ≡ before

-- a word counts as tested with what was known of it, and what was just read, where the last keys deposited what it held and opened it again;
-- and as unsteady with what one look read, and another number that was just read, where the last keys opened it
abbrev pub WordIsHeard : ℕ → Stage → Seen → List Heard → List ℕ → Type 0
WordIsHeard address (Returned old turned) (Tested r) heard typed =
    (r.old ≡ old) × (r.turned ≡ turned) × WasRead r.back heard × EndsWith (deposits address old) typed
WordIsHeard address (Once before) (Unsteady first second) heard typed =
    (first ≡ before) × (second ≢ first) × WasRead second heard × EndsWith (opens address) typed
WordIsHeard address stage word heard typed = ⊥

-- a word counts with these readings, and nothing is known of the next
pub record IsOneMore (before after : Tester) (heard : List Heard) (typed : List ℕ) : Type 0 where
  pub word : Seen
  pub seen : after.seen ≡ before.seen ++ word ∷ []
  pub read : WordIsHeard (address_under_way before) before.stage word heard typed
  pub stage : after.stage ≡ Unseen

-- what the last thing heard makes known of the word under way was read with it, behind these keys; and a word more counts only with
-- the numbers that were read of it
pub record TellsOnlyHeard (before after : Tester) (heard : List Heard) (typed : List ℕ) : Type 0 where
  pub stage : after.seen ≡ before.seen → StageIsHeard (address_under_way before) before.stage after.stage heard typed
  pub word : after.seen ≢ before.seen → IsOneMore before after heard typed

-- so it is whatever is heard
abbrev pub ReportsOnlyHeard : Tester → Type 0
ReportsOnlyHeard t = (heard : List Heard) (last : Heard) → TellsOnlyHeard (led t heard) (ask (led t heard) last).next (heard ++ last ∷ []) (replay t heard)
