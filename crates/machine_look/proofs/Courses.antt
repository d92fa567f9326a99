-- What looks and a reading behind them come to.
use Rattle.std.proofs.Common.{◌≡◌, ℕ, ◌-◌, ◌^◌, ◌<◌, ◌≤◌, List, [], ◌++◌, length, take, Option, Some, Ok, arith, ap, refl, sym, subst, ◌∙◌, append-nil}
use Rattle.std.proofs.lemmas.List.{length-map}
use Rattle.tape_image.specs.Word.{WordValue}
use Rattle.console_lines.specs.Console.{ConsoleTold}
use Rattle.console_lines.specs.Dialling.{asked_once}
use Rattle.host_devices.specs.Told.{Gains}
use Rattle.host_devices.specs.Turns.{most_turns}
use Rattle.host_devices.specs.declared.item.Item.{Item}
use Rattle.reading_core.specs.Addresses.{AreAddresses, IsRange, addresses_of}
use Rattle.reading_core.specs.Bound.{life_bound}
use Rattle.reading_core.specs.Invariant.{IsReader}
use Rattle.reading_core.specs.Reader.{Reader, begun_in, ended, manner_of}
use Rattle.reading_core.specs.declared.phase.End.TheVariants.{Complete}
use Rattle.looking_engine.specs.Stopping.{LookStop, TellsEnd}
use Rattle.looking_engine.specs.Inquired.{Inquired, inquiry}
use Rattle.sample_looks.specs.Finding.{IsFound}
use Rattle.sample_looks.specs.Samples.{BeginWith}
use Rattle.sample_looks.specs.declared.finding.Finding.{Finding}
use Rattle.sample_looks.proofs.Seen.{only_samples}
use Rattle.sample_looks.specs.declared.finding.Finding.TheVariants.{AllStand}
use Rattle.sample_looks.specs.declared.looking.Looked.{Looked}
use Rattle.request_values.specs.Change.{Change, ◌⇒◌}
use Rattle.machine_look.specs.Behind.{AreLookedAt, AreOfFound, IsAsFound, IsHeldUp, IsMemoryBehind, IsRead, Saving, WhereHonest, addresses_behind, all_stood, begun_at, begun_behind}
use Rattle.machine_look.specs.declared.saving.SaveOptions.{SaveOptions}
use Rattle.tape_shelf.specs.FoundPart.{FillBlocks}
use Rattle.machine_look.specs.Look.{IsGivenBack}
use Rattle.machine_look.proofs.BehindLooks.{IsReadBehind, looks_hold, reading_holds}
use Rattle.machine_look.proofs.Looks.{alone, behind}
use Rattle.machine_look.proofs.SavedMemory.{memory_behind}

-- what was found at samples, by what was read there: nothing else was looked at
pub found_there : (samples shown : List WordValue) (options : SaveOptions) (first last : Reader) (stop : LookStop) (finding : Finding) → first ≡ begun_at options samples → shown ≡ samples → last.addresses ≡ first.addresses → IsReader last
    → IsFound shown (take (length shown) last.values) stop finding → IsFound samples last.values stop finding
found_there samples shown options first last stop finding is same addresses kept found =
    subst (λ numbers. IsFound samples numbers stop finding) (only_samples samples last kept (addresses ∙ ap (λ (r : Reader). r.addresses) is))
    (subst (λ (list : List WordValue). IsFound list (take (length list) last.values) stop finding) same found)

-- the host that looks at them, at its beginning
pub begins_looking : (samples shown : List WordValue) (options : SaveOptions) (first : Reader) → first ≡ begun_at options samples → shown ≡ samples
    → (first ≡ begun_in first.manner first.addresses [] first.patience) × BeginWith shown first.addresses
begins_looking samples shown options first is same = (
  subst (λ (r : Reader). r ≡ begun_in r.manner r.addresses [] r.patience) (sym is) refl,
  subst (λ list. BeginWith list first.addresses) (sym same) ([], ap (λ (r : Reader). r.addresses) is ∙ sym (append-nil (addresses_of samples))),
)

pub are_looked_at : (samples : List WordValue) (options : SaveOptions) (first : Reader) (looked : Looked) (line line' : Option (List Item)) → first ≡ begun_at options samples
    → (s : Inquired most_turns (inquiry first looked.reader (Some looked.stop)) line line') → TellsEnd looked.stop (ended looked.reader.phase) → IsFound samples looked.reader.values looked.stop looked.finding
    → looked.reader.sent ≤ life_bound first.manner.care (length first.addresses) first.patience → looked.reader.patience ≡ first.patience → IsReader looked.reader → AreLookedAt samples options looked s.said
are_looked_at samples options first looked line line' is s end found bound same kept = record {
  inquired = subst (λ (r : Reader). Inquired most_turns (inquiry r looked.reader (Some looked.stop)) (Some []) (Some s.said)) is (alone (Some looked.stop) first looked.reader line line' s);
  end = end;
  found = found;
  bound =
      subst (λ n. looked.reader.sent ≤ life_bound options.care n options.patience) (length-map samples (λ (w : WordValue). w.address))
      (subst (λ (r : Reader). looked.reader.sent ≤ life_bound r.manner.care (length r.addresses) r.patience) is bound);
  paid = let whose : first.patience ≡ options.patience = ap (λ (r : Reader). r.patience) is in let few = kept.patient in omega (arith, few, same, whose);
}

pub held_up : (saving : Saving) (console : Change ConsoleTold) (looked : Looked) (samples : List WordValue) (said : List Item) → AreOfFound saving.options.range saving.found samples
    → (s : AreLookedAt samples saving.options looked said) → IsReader looked.reader → saving.options.patience < 2 ^ 32 → (looked.finding ≡ AllStand → ⊥)
    → Gains console.before.asked console.after.asked (asked_once console.before.call) → IsGivenBack (Some looked.stop) said (console.before.lines ⇒ console.after.lines) → IsHeldUp saving console looked
held_up saving console looked samples said of s kept long not_all asked given = record {
  samples = samples;
  of_found = of;
  said = said;
  looks = s;
  not_all = not_all;
  asked = asked;
  given = given;
  is_memory = subst (λ items. WhereHonest items (IsAsFound samples looked.finding)) (sym s.inquired.on_line) (looks_hold samples saving.options looked said of.asked long s kept);
}

pub is_read : (saving : Saving) (console : Change ConsoleTold) (looked : Looked) (last first : Reader) (stop : Option LookStop) (samples : List WordValue) (looking : List Item) (line line' : Option (List Item))
    → IsRange saving.options.range.from saving.options.range.to → saving.options.start < 65536 → FillBlocks saving.options.range saving.found → AreAddresses (addresses_behind saving.options.range saving.found)
    → AreOfFound saving.options.range saving.found samples → looked.finding ≡ AllStand → AreLookedAt samples saving.options looked looking → IsReader looked.reader → saving.options.patience < 2 ^ 32
    → first ≡ begun_behind saving looked.reader → (r : Inquired most_turns (inquiry first last stop) line line')
    → last.addresses ≡ first.addresses → last.patience ≡ first.patience → last.sent ≤ life_bound first.manner.care (length last.addresses) last.patience → IsReader last
    → Gains console.before.asked console.after.asked (asked_once console.before.call) → IsGivenBack stop (looking ++ r.said) (console.before.lines ⇒ console.after.lines)
    → IsRead saving console (record { looks = looked.reader; last = last; stop = stop })
is_read saving console looked last first stop samples looking line line' range begins fill are of all s kept long is r addresses patience bound kept' asked given =
    let looks : Reader = looked.reader in
    let behind_it : List ℕ = addresses_behind saving.options.range saving.found in
    let found : IsFound samples looks.values looked.stop AllStand = subst (λ f. IsFound samples looks.values looked.stop f) all s.found in
    let is_complete : looked.stop ≡ Ok Complete = found.0 in
    let stood : AreLookedAt samples saving.options (all_stood looks) looking = record {
      inquired = subst (λ t. Inquired most_turns (inquiry (begun_at saving.options samples) looks (Some t)) (Some []) (Some looking)) is_complete s.inquired;
      end = subst (λ t. TellsEnd t (ended looks.phase)) is_complete s.end;
      found = subst (λ t. IsFound samples looks.values t AllStand) is_complete found;
      bound = s.bound;
      paid = s.paid;
    } in
    let said : List Item = looking ++ r.said in
    let read : Inquired most_turns (inquiry (begun_behind saving looks) last stop) (Some looking) (Some said) =
    subst (λ (q : Reader). Inquired most_turns (inquiry q last stop) (Some looking) (Some said)) is (behind stop first last line line' looking r) in
    let there : last.addresses ≡ behind_it = addresses ∙ ap (λ (r : Reader). r.addresses) is in
    let left : last.patience ≡ saving.options.patience - looks.spent = patience ∙ ap (λ (r : Reader). r.patience) is in
    let holds : WhereHonest (stood.inquired.said ++ read.said) (IsReadBehind samples looks last) =
    reading_holds samples saving.options looks looking of.asked long stood kept stop (manner_of saving.options.care []) behind_it (saving.options.patience - looks.spent) last (Some looking) (Some said) are (omega (arith, long)) read in
    let all_said : stood.inquired.said ++ read.said ≡ said = ap (λ items. items ++ read.said) (sym stood.inquired.on_line) ∙ sym read.on_line in
    record {
      samples = samples;
      of_found = of;
      looking = looking;
      said = said;
      looked = stood;
      read = read;
      asked = asked;
      given = given;
      addresses = there;
      patience = left;
      bound = subst (λ care. last.sent ≤ life_bound care (length behind_it) (saving.options.patience - looks.spent)) (ap (λ (r : Reader). r.manner.care) is)
          (subst (λ n. last.sent ≤ life_bound first.manner.care (length behind_it) n) left (subst (λ (list : List ℕ). last.sent ≤ life_bound first.manner.care (length list) last.patience) there bound));
      kept = kept';
      is_memory = subst (λ items. WhereHonest items (IsMemoryBehind saving last.values samples)) all_said
          (λ machine now lost ready honest. memory_behind saving samples looks last (machine ⇒ now) range begins fill there kept' (holds machine now lost ready honest));
      none_foreign = subst (λ items. WhereHonest items (λ machine. (looks.foreign ≡ 0) × (last.foreign ≡ 0))) all_said (λ machine now lost ready honest. (holds machine now lost ready honest).none_foreign);
    }
