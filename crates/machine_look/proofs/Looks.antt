-- Looks, and what they say over an honest line.
use Rattle.std.proofs.Common.{◌≡◌, ℕ, ◌+◌, List, [], ◌∷◌, ◌++◌, length, Option, Some, None, Result, Ok, Err, inl, true, refl, arith, sym, subst}
use Rattle.odt_machine.specs.Machine.{Machine}
use Rattle.host_devices.specs.declared.item.Item.{Item}
use Rattle.host_devices.specs.Dialogue.{keys_of}
use Rattle.host_devices.specs.Turns.{most_turns}
use Rattle.looking_engine.specs.Honest.{IsHonest}
use Rattle.looking_engine.specs.Stopping.{LookStop, line_fault}
use Rattle.engine.specs.declared.stop.Cut.TheVariants.{LineFailed, TurnsOver}
use Rattle.looking_engine.specs.Belief.{IsBelievableBy}
use Rattle.looking_engine.specs.Inquired.{Inquired, IsInquired, inquiry}
use Rattle.looking_engine.proofs.Beliefs.{inquired_believable}
use Rattle.looking_engine.proofs.Inquiries.{inquired}
use Rattle.host_devices.proofs.Told.{gains_none}
use Rattle.std.specs.Prelude.{Result, Ok, Err, OnErr, is_err}
use Rattle.reading_core.specs.declared.phase.End.{End}
use Rattle.reading_core.specs.declared.phase.End.TheVariants.{Complete, GaveUp, NoWord}
use Rattle.reading_core.specs.declared.phase.Phase.{Phase}
use Rattle.reading_core.specs.declared.phase.Phase.TheVariants.{Settle, Sync, Address, Slash, Before, Value, Close, Refused, Ended as Over}
use Rattle.reading_core.specs.Invariant.{Basis, PhaseFits, IsReader}
use Rattle.reading_core.specs.Reader.{Reader, ended}
use Rattle.reading_core.proofs.Turns.{within_bound}
use Rattle.looking_law.specs.Belief.{IsTrueReading, MayLook}
use Rattle.tape_values.specs.Told.{IsAsTold}
use Rattle.host_devices.specs.Devices.{LineTold}
use Rattle.host_devices.specs.Failures.{CountsFault, IsLastFault}
use Rattle.host_devices.specs.Told.{Gains}
use Rattle.request_values.specs.Change.{◌⇒◌}
use Rattle.machine_look.specs.Look.{IsGivenBack, IsLineOf, IsLook, IsLookOf}

-- ---- how a look comes to be

-- what was said on a line, as behind other things
pub behind : (stop : Option LookStop) (first last : Reader) (line line' : Option (List Item)) (before : List Item) (s : Inquired most_turns (inquiry first last stop) line line')
    → Inquired most_turns (inquiry first last stop) (Some before) (Some (before ++ s.said))
behind stop first last line line' before s = record { heard = s.heard; said = s.said; host = s.host; goes_on = s.goes_on; within = s.within; items = s.items; unkept = s.unkept; on_line = refl }

-- or alone
pub alone : (stop : Option LookStop) (first last : Reader) (line line' : Option (List Item)) (s : Inquired most_turns (inquiry first last stop) line line') → Inquired most_turns (inquiry first last stop) (Some []) (Some s.said)
alone stop first last line line' s = behind stop first last line line' [] s

-- it may be believed
pub believed_said : (stop : Option LookStop) (first last : Reader) (line line' : Option (List Item)) (s : Inquired most_turns (inquiry first last stop) line line') → IsReader first → IsBelievableBy stop first last s.said
believed_said stop first last line line' s reads = inquired_believable most_turns stop first last (Some []) (Some s.said) reads (alone stop first last line line' s) s.said ([], refl, refl)

-- a line that told nothing, or that nothing had been said, tells all
told_all : (line line' : Option (List Item)) (said : List Item) → IsAsTold line [] → Gains line line' said → IsAsTold line' said
told_all None None said fresh g = tt
told_all None (Some grown) said fresh g = absurd g
told_all (Some items) None said fresh g = absurd g
told_all (Some items) (Some grown) said fresh g = sym (subst (λ (front : List Item). grown ≡ front ++ said) (sym fresh) g)

-- a line that was reached is given back
pub given_back : (stop : Option LookStop) (reached told : LineTold) (said : List Item) (lines between lines' : Option (List LineTold)) → IsAsTold reached.said [] → reached.failures ≡ 0 → Gains reached.said told.said said
    → CountsFault (line_fault stop) reached.failures told.failures → IsLastFault (line_fault stop) told.fault → between ≡ lines → Gains between lines' (told ∷ []) → IsGivenBack stop said (lines ⇒ lines')
given_back stop reached told said lines between lines' fresh none gains counted named same given = record {
  last = told;
  all = told_all reached.said told.said said fresh gains;
  counted = subst (λ n. CountsFault (line_fault stop) n told.failures) none counted;
  named = named;
  given = subst (λ l. Gains l lines' (told ∷ [])) same given;
}

pub look_over : (stop : Option LookStop) (first last : Reader) (reached told : LineTold) (lines between lines' : Option (List LineTold)) → IsReader first → ended first.phase ≡ None → IsInquired most_turns (inquiry first last stop) reached told
    → IsAsTold reached.said [] → reached.failures ≡ 0 → between ≡ lines → Gains between lines' (told ∷ []) → IsLookOf (first ⇒ last) stop (lines ⇒ lines')
look_over stop first last reached told lines between lines' reads goes_on i fresh none same given =
    let s = i.turns.session in
    record {
      said = s.said;
      inquired = alone stop first last reached.said told.said s;
      line_is = subst (λ over. IsLineOf over stop s.said (lines ⇒ lines')) (sym goes_on) (given_back stop reached told s.said lines between lines' fresh none s.on_line i.turns.counted i.turns.named same given);
      end = i.turns.end;
      believed = believed_said stop first last reached.said told.said s reads;
      addresses = i.same_addresses;
      patience = i.same_patience;
      bound = i.bound;
      kept = i.kept;
    }

-- before its first turn
pub untouched : (reader : Reader) (line : LineTold) → IsReader reader → IsInquired most_turns (inquiry reader reader None) line line
untouched reader line reads = inquired most_turns reader reader None line line reads reads record {
  session = record { heard = []; said = []; host = refl; goes_on = tt; within = omega arith; items = inl refl; unkept = λ none. inl refl; on_line = gains_none line.said };
  end = tt;
  counted = refl;
  named = tt;
}

-- a reader that has an end from the beginning needs no line
pub no_look : (reader : Reader) (end : End) (lines : Option (List LineTold)) → IsReader reader → ended reader.phase ≡ Some end → IsLook (reader ⇒ reader) (Ok end) (lines ⇒ lines)
no_look reader end lines reads is =
    let nothing : Inquired most_turns (inquiry reader reader (Some (Ok end))) (Some []) (Some []) = record {
      heard = [];
      said = [];
      host = refl;
      goes_on = tt;
      within = omega arith;
      items = refl;
      unkept = λ none. inl refl;
      on_line = refl;
    } in
    record {
      said = [];
      inquired = nothing;
      line_is = subst (λ over. IsLineOf over (Some (Ok end)) [] (lines ⇒ lines)) (sym is) refl;
      end = is;
      believed = believed_said (Some (Ok end)) reader reader (Some []) (Some []) nothing reads;
      addresses = refl;
      patience = refl;
      bound = within_bound reader reads;
      kept = reads;
    }

-- ---- what it says

-- over an honest line what was read is true, with the losses, or one more where the line failed
pub is_true : (stop : Option LookStop) (first last : Reader) (items : List Item) (machine now : Machine) (lost : ℕ) → IsBelievableBy stop first last items → MayLook first machine → IsHonest machine items lost now
    → (more : ℕ) × IsTrueReading machine.memory last now.memory (keys_of items) (lost + more)
is_true None first last items machine now lost believed may honest = (0, believed.0 machine now lost may honest)
is_true (Some (Ok end)) first last items machine now lost believed may honest = (0, believed machine now lost may honest)
is_true (Some (Err TurnsOver)) first last items machine now lost believed may honest = (0, believed machine now lost may honest)
is_true (Some (Err (LineFailed fault))) first last items machine now lost believed may honest = (1, believed.0 machine now lost may honest)

-- a reader that has read all has as many numbers as addresses
all_in : (phase : Phase) (b : Basis) → PhaseFits phase b → ended phase ≡ Some Complete → length b.values ≡ length b.addresses
all_in (Over Complete) b fits is = fits
all_in (Over GaveUp) b fits is = absurd (cc is)
all_in (Over (NoWord a)) b fits is = absurd (cc is)
all_in Settle b fits is = absurd (cc is)
all_in (Sync place) b fits is = absurd (cc is)
all_in (Address place) b fits is = absurd (cc is)
all_in Slash b fits is = absurd (cc is)
all_in Before b fits is = absurd (cc is)
all_in (Value value place) b fits is = absurd (cc is)
all_in (Close place) b fits is = absurd (cc is)
all_in (Refused place) b fits is = absurd (cc is)

pub all_read : (reader : Reader) → IsReader reader → ended reader.phase ≡ Some Complete → length reader.values ≡ length reader.addresses
all_read reader reads is = all_in reader.phase _ reads.fits is

-- ---- what is known of an answer

pub error_known : {T E : Type 0} (P : Type 0) (r : Result T E) → true ≡ is_err r → OnErr r P → P
error_known P (Ok x) is h = absurd (cc is)
error_known P (Err e) is h = h
