-- A verification that ends as `Same` over an honest line.
use Rattle.std.proofs.Common.{◌≡◌, ℕ, ◌<◌, Bool, true, false, cond, eqb, List, [], length, get_or, Option, Some, Ok, Err, refl, arith, ap, sym, subst, ◌∙◌}
use Rattle.std.proofs.lemmas.Bool.{eqb-true}
use Rattle.std.proofs.lemmas.List.{get_or-map, length-map}
use Rattle.tape_image.specs.Plan.{PlanValue}
use Rattle.tape_image.specs.Word.{WordValue, Stands}
use Rattle.tape_image.proofs.Halves.{Stands-unchanged}
use Rattle.odt_machine.specs.Machine.{is_word, word_at}
use Rattle.host_core.specs.Core.{word_nr, no_word}
use Rattle.line_world.specs.Safe.{FirstStand}
use Rattle.reading_core.specs.declared.phase.End.TheVariants.{Complete, GaveUp as HostGaveUp, NoWord as HostFoundNoWord}
use Rattle.reading_core.specs.Addresses.{addresses_of}
use Rattle.reading_core.specs.Reader.{Reader, ended}
use Rattle.looking_law.specs.Belief.{IsTrueReading}
use Rattle.host_devices.specs.Devices.{LineTold}
use Rattle.request_values.specs.Change.{Change, ◌⇒◌}
use Rattle.looking_engine.specs.Stopping.{LookStop, TellsEnd}
use Rattle.machine_look.specs.declared.look_fault.LookFault.{LookFault}
use Rattle.machine_look.specs.declared.look_fault.LookFault.TheVariants.{Connect, IsThere, Memory, NotOfSave, PartIsThere, WriteOutput, WriteTape}
use Rattle.machine_look.specs.declared.verify_end.VerifyEnd.{VerifyEnd}
use Rattle.machine_look.specs.declared.verify_end.VerifyEnd.TheVariants.{Same, Changed, Differs}
use Rattle.machine_look.specs.Differences.{differences}
use Rattle.console_lines.specs.Console.{ConsoleTold}
use Rattle.machine_look.specs.Look.{AsksOnce, IsLook, OverHonestLine}
use Rattle.machine_look.specs.LookFault.{IsCompareFault, IsVerifyFault}
use Rattle.machine_look.specs.Verify.{IsSameWith, IsVerified, verifier}
use Rattle.machine_look.specs.declared.verifying.VerifyOptions.{VerifyOptions}
use Rattle.machine_look.specs.Trust.{is_trusted}
use Rattle.machine_look.specs.VerifyReport.{last_lines, verify_end}
use Rattle.machine_look.proofs.Found.{none_differ}
use Rattle.machine_look.proofs.Looks.{all_read, is_true}

-- it ends so only where every word was read and none differs
same_means : (trusted : Bool) (differ : ℕ) (stop : LookStop) → verify_end trusted differ stop ≡ Same → (stop ≡ Ok Complete) × (differ ≡ 0)
same_means trusted differ (Ok Complete) is =
    (refl, elim (eqb differ 0) as (λ t. eqb differ 0 ≡ t → cond t (cond trusted Same Changed) Differs ≡ Same → differ ≡ 0) [ true ↦ λ e same. eqb-true _ _ e | false ↦ λ e same. absurd (cc same) ] refl is)
same_means trusted differ (Ok HostGaveUp) is = absurd (cc is)
same_means trusted differ (Ok (HostFoundNoWord address)) is = absurd (cc is)
same_means trusted differ (Err cut) is = absurd (cc is)

address_is : (words : List WordValue) (addresses : List ℕ) (i : ℕ) → addresses ≡ addresses_of words → i < length words → get_or addresses i 0 ≡ (word_nr words i).address
address_is words addresses i are low = ap (λ list. get_or list i 0) are ∙ get_or-map (λ (w : WordValue). w.address) words i no_word 0 low

-- where memory holds what was read, and no number that was read differs from its word, every word stands
stand_where_read : (words : List WordValue) (last : Reader) (before now : List ℕ) (keys : List ℕ) (lost : ℕ) → last.addresses ≡ addresses_of words → length last.values ≡ length words → length (differences words last.values) ≡ 0
    → IsTrueReading before last now keys lost → FirstStand words (length words) now
stand_where_read words last before now keys lost are all none heard = record {
  lies = λ i low. subst (λ a. is_word now a ≡ true) (address_is words last.addresses i are low) (heard.read.lies i (omega arith));
  stands = λ i low.
      let here : get_or last.values i 0 ≡ word_at now (word_nr words i).address = heard.read.holds i (omega arith) ∙ ap (word_at now) (address_is words last.addresses i are low) in
      subst (Stands (word_nr words i)) here (Stands-unchanged (word_nr words i) (get_or last.values i 0) (none_differ words last.values all none i low));
}

pub all_stand : (words : List WordValue) (trusted : Bool) (first last : Reader) (stop : LookStop) {lines : Change (Option (List LineTold))} (look : IsLook (first ⇒ last) stop lines) → first.addresses ≡ addresses_of words
    → verify_end trusted (length (differences words last.values)) stop ≡ Same → OverHonestLine look (IsSameWith words)
all_stand words trusted first last stop look are same machine now lost may honest =
    let means = same_means trusted (length (differences words last.values)) stop same in
    let addresses = look.addresses ∙ are in
    let all : length last.values ≡ length words =
    all_read last look.kept (ended_is last stop means.0 look) ∙ (ap length addresses ∙ length-map words (λ (w : WordValue). w.address)) in
    let heard = is_true (Some stop) first last look.said machine now lost look.believed may honest in
    (heard.1.same, stand_where_read words last machine.memory now.memory _ _ addresses all means.1 heard.1)
  where
    ended_is : (last : Reader) (stop : LookStop) {lines : Change (Option (List LineTold))} → stop ≡ Ok Complete → IsLook (first ⇒ last) stop lines → ended last.phase ≡ Some Complete
    ended_is last stop is look = subst (λ s. TellsEnd s (ended last.phase)) is look.end

-- nothing is heard there that no loss explains
pub none_foreign : (first last : Reader) (stop : LookStop) {lines : Change (Option (List LineTold))} (look : IsLook (first ⇒ last) stop lines) → OverHonestLine look (λ before now. last.foreign ≡ 0)
none_foreign first last stop look machine now lost may honest = (is_true (Some stop) first last look.said machine now lost look.believed may honest).1.foreign

-- ---- a verification

abbrev pub verified_of : (plan : PlanValue) (options : VerifyOptions) (before after : ConsoleTold) (first last : Reader) (stop : LookStop) (end : VerifyEnd) → first ≡ verifier plan options → IsLook (first ⇒ last) stop (before.lines ⇒ after.lines)
    → AsksOnce (ended first.phase) before.call before.asked after.asked → end ≡ verify_end (is_trusted options.care last.foreign) (length (differences plan.words last.values)) stop → IsVerified plan options (before ⇒ after) end
verified_of plan options before after first last stop end is look asks ends =
    let moved : IsLook (verifier plan options ⇒ last) stop (before.lines ⇒ after.lines) = subst (λ r. IsLook (r ⇒ last) stop (before.lines ⇒ after.lines)) is look in
    record {
      last = last;
      stop = stop;
      look = moved;
      asked = subst (λ r. AsksOnce (ended r.phase) before.call before.asked after.asked) is asks;
      end_is = ends;
      stand = λ same. all_stand plan.words (is_trusted options.care last.foreign) (verifier plan options) last stop moved refl (sym ends ∙ same);
      none_foreign = none_foreign (verifier plan options) last stop moved;
    }

-- its words were as many as the addresses
pub words_count : (words : List WordValue) (last : Reader) → last.addresses ≡ addresses_of words → length last.addresses ≡ length words
words_count words last are = ap length are ∙ length-map words (λ (w : WordValue). w.address)

-- how many differ
pub differ_is : (words words' : List WordValue) (last : Reader) (numbers : List ℕ) (differ : ℕ) → words' ≡ words → numbers ≡ last.values → differ ≡ length (differences words' numbers) → differ ≡ length (differences words last.values)
differ_is words words' last numbers differ w n count = count ∙ (ap (λ list. length (differences list numbers)) w ∙ ap (λ list. length (differences words list)) n)

-- the last lines of a report are those of the words
pub last_is : (words words' : List WordValue) (last : Reader) (numbers : List ℕ) (trusted trusted' : Bool) (differ : ℕ) (stop : LookStop) (text : List ℕ) → trusted ≡ trusted' → words' ≡ words → numbers ≡ last.values → last.addresses ≡ addresses_of words → differ ≡ length (differences words' numbers)
    → text ≡ last_lines trusted (length last.addresses) last differ stop → text ≡ last_lines trusted' (length words) last (length (differences words last.values)) stop
last_is words words' last numbers trusted trusted' differ stop text believed w n are count is =
    is
    ∙ (ap (λ t. last_lines t (length last.addresses) last differ stop) believed
    ∙ (ap (λ k. last_lines trusted' k last differ stop) (words_count words last are)
    ∙ ap (λ k. last_lines trusted' (length words) last k stop) (differ_is words words' last numbers differ w n count)))

-- a comparison of a plan's words that comes to nothing
pub compare_fault : (plan : PlanValue) (options : VerifyOptions) (words : List WordValue) (first : Reader) (console : Change ConsoleTold) (fault : LookFault) → words ≡ plan.words → first ≡ verifier plan options
    → IsCompareFault words first console fault → IsVerifyFault plan options console fault
compare_fault plan options words first console fault w r fails =
    same fault (subst (λ list. IsCompareFault list (verifier plan options) console fault) w (subst (λ reader. IsCompareFault words reader console fault) r fails))
  where
    same : (fault : LookFault) → IsCompareFault plan.words (verifier plan options) console fault → IsVerifyFault plan options console fault
    same Connect h = h
    same WriteOutput h = h
    same IsThere h = absurd h
    same PartIsThere h = absurd h
    same NotOfSave h = absurd h
    same WriteTape h = absurd h
    same Memory h = absurd h
