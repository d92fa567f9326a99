-- What was told of a dialogue: all of it, or all but its last key, which may be thought to be under way still.
use Rattle.std.proofs.Common.{◌≡◌, ℕ, List, [], ◌∷◌, ◌++◌, inl, inr, refl, sym, subst, append-nil}
use Rattle.odt_machine.specs.Machine.{Machine}
use Rattle.host_core.specs.declared.heard.Heard.{Heard}
use Rattle.line_world.specs.Invariant.{OneWay}
use Rattle.line_world.specs.Wire.{Wire, sent}
use Rattle.host_devices.specs.declared.item.Item.{Item}
use Rattle.host_devices.specs.declared.item.Item.TheVariants.{Sent, Heard as Came}
use Rattle.honest_line.specs.Moves.{Passes}
use Rattle.honest_line.specs.Honest.{IsHonest, resting}
use Rattle.honest_line.proofs.Wires.{none_moves, passes_then}
use Rattle.reading_core.specs.Invariant.{IsReader}
use Rattle.reading_core.specs.Reader.{Reader}
use Rattle.reading_core.specs.Laws.{led}
use Rattle.looking_law.specs.Belief.{dialogue, MayLook}
use Rattle.line_world.specs.Scene.{over}
use Rattle.looking_law.proofs.Believed.{dialogue_mirrored}
use Rattle.looking_law.proofs.Mirrors.{IsMirrored}
use Rattle.trial_core.specs.declared.trial.Trial.{Trial}
use Rattle.looking_law.specs.Trying.{IsToldOf, trial_dialogue}
use Rattle.looking_law.specs.Splitting.{BeginsByListening, EndsTidily, IsTidy, ReadingsEndTidily}

-- the dialogue passes wherever what was told of it does
pub told_passes : (all told : List Item) (x y : Wire) → IsToldOf all told → Passes x told y → (keys : List ℕ) × Passes x all (sent y keys)
told_passes all told x y (inl whole) passes =
    ([], subst (λ items. Passes x items (sent y [])) whole (subst (λ down. Passes x told (record y { down = down })) (sym (append-nil y.down)) passes))
told_passes all told x y (inr (key, lacks)) passes =
    (key ∷ [], subst (λ items. Passes x items (sent y (key ∷ []))) (sym lacks) (passes_then told (Sent key ∷ []) x y (sent y (key ∷ [])) passes (none_moves (sent y (key ∷ [])))))

pub told_honest : (all told : List Item) (machine now : Machine) (lost : ℕ) → IsToldOf all told → IsHonest machine told lost now → IsHonest machine all lost now
told_honest all told machine now lost front honest =
    let whole = told_passes all told (resting machine honest.waiting 0) honest.end front honest.passes in
    record { waiting = honest.waiting; few = honest.few; end = sent honest.end whole.0; passes = whole.1; machine_is = honest.machine_is; lost_is = honest.lost_is }

-- ---- where it ends

none_before : (down keys : List ℕ) → down ++ keys ≡ [] → down ≡ []
none_before [] keys none = refl
none_before (c ∷ down) keys none = absurd (cc none)

pub way_before : (down keys up : List ℕ) → OneWay (down ++ keys) up → OneWay down up
way_before [] keys up one = tt
way_before (c ∷ down) keys up one = (none_before down keys one.0, one.1)

tidy_before : (y : Wire) (keys : List ℕ) → IsTidy (sent y keys) → IsTidy y
tidy_before y keys tidy = record { one_way = way_before y.down keys y.up tidy.one_way; few = tidy.few }

pub told_tidy : (all told : List Item) (machine : Machine) → IsToldOf all told → EndsTidily machine all → EndsTidily machine told
told_tidy all told machine front tidy waiting end few passes =
    let whole = told_passes all told (resting machine waiting 0) end front passes in
    tidy_before end whole.0 (tidy waiting (sent end whole.0) few whole.1)

reading_tidy : (r : Reader) (things : List Heard) (machine : Machine) → IsReader r → MayLook r machine → EndsTidily machine (dialogue r things)
reading_tidy r things machine is may waiting end few passes =
    let left : IsMirrored machine.memory (over (led r things) end) = dialogue_mirrored r things machine waiting end is may few passes in
    record { one_way = left.books.kept.one_way; few = left.books.kept.few }

pub readings_tidy : ReadingsEndTidily
readings_tidy r things told machine is may front = told_tidy (dialogue r things) told machine front (reading_tidy r things machine is may)

-- ---- how it begins

pub reading_begins : (r : Reader) (things : List Heard) → BeginsByListening (dialogue r things)
reading_begins r [] = tt
reading_begins r (heard ∷ more) = tt

pub trial_begins : (t : Trial) (things : List Heard) → BeginsByListening (trial_dialogue t things)
trial_begins t [] = tt
trial_begins t (heard ∷ more) = tt

front_begins : (items more : List Item) → BeginsByListening (items ++ more) → BeginsByListening items
front_begins [] more begins = tt
front_begins (Sent key ∷ items) more begins = begins
front_begins (Came what ∷ items) more begins = tt

pub told_begins : (all told : List Item) → IsToldOf all told → BeginsByListening all → BeginsByListening told
told_begins all told (inl whole) begins = subst BeginsByListening (sym whole) begins
told_begins all told (inr (key, lacks)) begins = front_begins told (Sent key ∷ []) (subst BeginsByListening lacks begins)

pub both_begin : (items more : List Item) → BeginsByListening items → BeginsByListening more → BeginsByListening (items ++ more)
both_begin [] more begins next = next
both_begin (Sent key ∷ items) more begins next = begins
both_begin (Came what ∷ items) more begins next = tt
