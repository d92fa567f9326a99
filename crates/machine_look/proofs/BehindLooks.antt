-- Looks and a reading behind them, over one honest line.
use Rattle.std.proofs.Common.{◌≡◌, ℕ, ◌-◌, ◌^◌, ◌<◌, List, [], ◌∷◌, ◌++◌, length, get_or, Option, None, Some, Ok, Err, refl, ap, sym, subst, ◌∙◌, inl, inr, append-nil}
use Rattle.odt_machine.specs.Machine.{Machine, word_at}
use Rattle.tape_image.specs.Word.{WordValue}
use Rattle.host_core.specs.declared.heard.Heard.{Heard}
use Rattle.host_devices.specs.declared.item.Item.{Item}
use Rattle.host_devices.specs.Turns.{most_turns}
use Rattle.reading_core.specs.Addresses.{AreAddresses, addresses_of}
use Rattle.reading_core.specs.Invariant.{IsReader}
use Rattle.reading_core.specs.Laws.{led}
use Rattle.reading_core.specs.Reader.{Manner, Reader, begun_in, manner_of}
use Rattle.reading_core.specs.ReadingTable.{ask}
use Rattle.reading_core.specs.declared.phase.End.TheVariants.{Complete}
use Rattle.reading_core.proofs.Lives.{asked}
use Rattle.reading_core.proofs.Turns.{fresh_in}
use Rattle.looking_law.specs.Belief.{IsReadyMachine, dialogue}
use Rattle.looking_law.specs.Trying.{IsToldOf}
use Rattle.looking_law.proofs.Believed.{leave_ready}
use Rattle.looking_law.proofs.Runs.{may_begin_in}
use Rattle.looking_law.proofs.Splits.{lines_split}
use Rattle.looking_law.proofs.Told.{reading_begins, readings_tidy, told_begins, told_honest}
use Rattle.looking_engine.specs.Belief.{IsBelievableOver}
use Rattle.looking_engine.specs.Inquired.{Inquired, inquiry}
use Rattle.looking_engine.specs.Session.{IsSaid}
use Rattle.looking_engine.specs.Stopping.{LookStop}
use Rattle.engine.specs.declared.stop.Cut.TheVariants.{LineFailed, TurnsOver}
use Rattle.looking_engine.proofs.Beliefs.{inquired_believable}
use Rattle.sample_looks.specs.Finding.{IsFound, IsSoIn}
use Rattle.sample_looks.specs.Looked.{IsSeen}
use Rattle.sample_looks.specs.declared.finding.Finding.TheVariants.{AllStand}
use Rattle.sample_looks.specs.declared.looking.Looked.{Looked}
use Rattle.sample_looks.proofs.Seen.{only_samples, so_over}
use Rattle.request_values.specs.Change.{Change}
use Rattle.machine_look.specs.Behind.{AreLookedAt, IsAsFound, WhereHonest, all_stood, begun_at}
use Rattle.machine_look.specs.declared.saving.SaveOptions.{SaveOptions}
use Rattle.machine_look.proofs.Looks.{alone, believed_said, is_true}

led_addresses : (r : Reader) (things : List Heard) → (led r things).addresses ≡ r.addresses
led_addresses r [] = refl
led_addresses r (what ∷ things) = led_addresses (ask r what).next things ∙ (asked r what).addresses

said_told : (stop : Option LookStop) (left : ℕ) (all said : List Item) → IsSaid stop left all said → IsToldOf all said
said_told None left all said s = s
said_told (Some (Ok end)) left all said s = inl s
said_told (Some (Err TurnsOver)) left all said s = inl s.0
said_told (Some (Err (LineFailed fault))) left all said (inl s) = inl s.0
said_told (Some (Err (LineFailed fault))) left all said (inr lacks) = inr lacks

-- what looks found is so in memory, which is what it was
pub looks_hold : (samples : List WordValue) (options : SaveOptions) (looked : Looked) (said : List Item) → AreAddresses (addresses_of samples) → options.patience < 2 ^ 32
    → (s : AreLookedAt samples options looked said) → IsReader looked.reader → WhereHonest s.inquired.said (IsAsFound samples looked.finding)
looks_hold samples options looked said are long s kept machine now lost ready honest =
    let looks : Reader = looked.reader in
    let stop : LookStop = looked.stop in
    let first : Reader = begun_at options samples in
    let reads = fresh_in (manner_of options.care []) (addresses_of samples) options.patience are long in
    let same : looks.addresses ≡ first.addresses = ap (λ (r : Reader). r.addresses) s.inquired.host ∙ led_addresses first s.inquired.heard in
    let over : IsBelievableOver (inquiry first looks (Some stop)) (Some []) (Some s.inquired.said) =
    inquired_believable most_turns (Some stop) first looks (Some []) (Some s.inquired.said) reads (alone (Some stop) first looks (Some []) (Some said) s.inquired) in
    let seen : IsSeen samples first.addresses looked.finding machine now =
    so_over samples first looks stop looked.finding (Some []) (Some s.inquired.said) refl ([], sym (append-nil (addresses_of samples))) kept same s.end
    (subst (λ numbers. IsFound samples numbers stop looked.finding) (sym (only_samples samples looks kept same)) s.found) over s.inquired.said ([], refl, refl) machine now lost ready honest in
    (seen.memory, seen.so)

-- what was read behind looks that came to their end is what memory holds, and that is what it was
pub record IsReadBehind (samples : List WordValue) (looks last : Reader) (machine : Change Machine) : Type 0 where
  pub as_found : IsAsFound samples AllStand machine
  pub none_foreign : (looks.foreign ≡ 0) × (last.foreign ≡ 0)
  pub holds : (i : ℕ) → i < length last.values → get_or last.values i 0 ≡ word_at machine.after.memory (get_or last.addresses i 0)

pub reading_holds : (samples : List WordValue) (options : SaveOptions) (looks : Reader) (said : List Item) → AreAddresses (addresses_of samples) → options.patience < 2 ^ 32
    → (s : AreLookedAt samples options (all_stood looks) said) → IsReader looks
    → (stop : Option LookStop) (manner : Manner) (addresses : List ℕ) (left : ℕ) (last : Reader) (line line' : Option (List Item)) → AreAddresses addresses → left < 2 ^ 32
    → (t : Inquired most_turns (inquiry (begun_in manner addresses [] left) last stop) line line') → WhereHonest (s.inquired.said ++ t.said) (IsReadBehind samples looks last)
reading_holds samples options looks said are long s kept stop manner addresses left last line line' are' long' t machine now lost ready honest =
    let looking : Manner = manner_of options.care [] in
    let first : Reader = begun_at options samples in
    let second : Reader = begun_in manner addresses [] left in
    let reads = fresh_in looking (addresses_of samples) options.patience are long in
    let may = may_begin_in looking (addresses_of samples) options.patience machine ready in
    let reads' = fresh_in manner addresses left are' long' in
    let told : IsToldOf (dialogue first s.inquired.heard) s.inquired.said = said_told (Some (Ok Complete)) (most_turns - length s.inquired.heard) (dialogue first s.inquired.heard) s.inquired.said s.inquired.items in
    let told' : IsToldOf (dialogue second t.heard) t.said = said_told stop (most_turns - length t.heard) (dialogue second t.heard) t.said t.items in
    let parts = lines_split machine now s.inquired.said t.said lost (readings_tidy first s.inquired.heard s.inquired.said machine reads may told) (told_begins (dialogue second t.heard) t.said told' (reading_begins second t.heard)) honest in
    let found = looks_hold samples options (all_stood looks) said are long s kept machine parts.between parts.lost_before ready parts.before in
    let looked = is_true (Some (Ok Complete)) first looks s.inquired.said machine parts.between parts.lost_before (believed_said (Some (Ok Complete)) first looks (Some []) (Some said) s.inquired reads) may parts.before in
    let ready' : IsReadyMachine parts.between = leave_ready first s.inquired.heard machine parts.between parts.lost_before reads may
    (told_honest (dialogue first s.inquired.heard) s.inquired.said machine parts.between parts.lost_before told parts.before) in
    let read = is_true stop second last t.said parts.between now parts.lost_after (believed_said stop second last line line' t reads') (may_begin_in manner addresses left parts.between ready') parts.after in
    record {
      as_found = (read.1.same ∙ found.0, subst (λ memory. IsSoIn memory samples AllStand) (sym read.1.same) found.1);
      none_foreign = (looked.1.foreign, read.1.foreign);
      holds = read.1.read.holds;
    }
