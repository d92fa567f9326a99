-- What a load of one word says.
use Rattle.std.proofs.Common.{◌≡◌, ℕ, ◌+◌, ◌<◌, Bool, true, false, List, [], ◌∷◌, length, Option, Some, refl, arith, ap, sym, subst, ◌∙◌}
use Rattle.tape_image.specs.Word.{Stands, whole_word}
use Rattle.tape_image.specs.Plan.{PlanValue}
use Rattle.tape_image.proofs.Halves.{halves_make_word, merged-Stands}
use Rattle.odt_machine.specs.Machine.{Machine, is_word, word_at}
use Rattle.host_core.specs.declared.heard.Heard.{Heard}
use Rattle.host_core.specs.declared.phase.End.TheVariants.{Loaded, Started, Uncertain, MaybeStarted, GaveUp, NoWord, WontHold}
use Rattle.host_core.specs.declared.phase.Phase.{Phase}
use Rattle.host_core.specs.declared.phase.Phase.TheVariants.{Settle, Sync, Address, Slash, Before, Value, Deposit as Depositing, Return, Start, Go, Ended as Over}
use Rattle.host_core.specs.Core.{Core, begun, ended, word_nr}
use Rattle.host_core.specs.Host.{Basis, EndFits, IsHost, PhaseFits, basis_of}
use Rattle.host_core.specs.Laws.{led}
use Rattle.host_devices.specs.declared.item.Item.{Item}
use Rattle.host_devices.specs.declared.item.Kept.{Kept}
use Rattle.host_devices.specs.Dialogue.{dialogue}
use Rattle.honest_line.specs.Trust.{IsTrusted, IsTrustworthy, MayBegin}
use Rattle.honest_line.proofs.Trusted.{trustworthy}
use Rattle.looking_law.specs.Belief.{IsReadyMachine}
use Rattle.load_engine.specs.Driving.{LoadSession, LoadStop as Stop, driving}
use Rattle.load_engine.proofs.Sessions.{core_is, session_said}
use Rattle.engine.specs.declared.stop.Stop.TheVariants.{Ended, KeepFailed, CutOff}
use Rattle.engine.specs.Session.{SessionTold, session_told}
use Rattle.engine.specs.Stopping.{TellsEnd}
use Rattle.machine_probe.specs.declared.putting_back.Deposit.{Deposit}
use Rattle.machine_probe.specs.declared.probe_options.ProbeOptions.{ProbeOptions}
use Rattle.machine_probe.specs.PuttingBack.{HoldsAgain, IsDeposit, IsPlanOfWord, PutsBack, is_loaded}
use Rattle.machine_probe.specs.Runs.{OnLine}
use Rattle.machine_probe.specs.Turns.{turns_of}
use Rattle.machine_probe.proofs.Joins.{one}

-- ---- the end

loaded_at : (phase : Phase) (b : Basis) → ended phase ≡ Some Loaded → PhaseFits phase b → EndFits Loaded b
loaded_at (Over Loaded) b is fits = fits
loaded_at (Over Started) b is fits = absurd (cc is)
loaded_at (Over Uncertain) b is fits = absurd (cc is)
loaded_at (Over MaybeStarted) b is fits = absurd (cc is)
loaded_at (Over GaveUp) b is fits = absurd (cc is)
loaded_at (Over (NoWord a)) b is fits = absurd (cc is)
loaded_at (Over (WontHold a)) b is fits = absurd (cc is)
loaded_at Settle b is fits = absurd (cc is)
loaded_at (Sync place) b is fits = absurd (cc is)
loaded_at (Address visit place) b is fits = absurd (cc is)
loaded_at (Slash visit) b is fits = absurd (cc is)
loaded_at (Before visit) b is fits = absurd (cc is)
loaded_at (Value visit value place) b is fits = absurd (cc is)
loaded_at (Depositing deposit value place) b is fits = absurd (cc is)
loaded_at (Return reason place) b is fits = absurd (cc is)
loaded_at (Start place) b is fits = absurd (cc is)
loaded_at Go b is fits = absurd (cc is)

-- a whole word that stands is the one that memory holds
stands_whole : (address old now : ℕ) → Stands (whole_word address old) now → now ≡ old
stands_whole address old now stands = sym (merged-Stands (whole_word address old) now stands) ∙ halves_make_word old

-- ---- over an honest line

-- a host that verified the one word of its plan
holds : (before : List ℕ) (address old : ℕ) (last : Core) (now : List ℕ) (keys : List ℕ) (lost : ℕ) → last.plan.words ≡ whole_word address old ∷ [] → last.verified ≡ length last.plan.words → IsTrusted before last now keys lost →
    (is_word now address ≡ true) × (word_at now address ≡ old)
holds before address old last now keys lost words all trusted =
    let one : 0 < last.verified = subst (λ n. 0 < n) (sym (all ∙ ap length words)) (omega arith) in (
      subst (λ ws. is_word now (word_nr ws 0).address ≡ true) words (trusted.safe.verified.lies 0 one),
      stands_whole address old (word_at now address) (subst (λ ws. Stands (word_nr ws 0) (word_at now (word_nr ws 0).address)) words (trusted.safe.verified.stands 0 one)),
    )

-- a life that begins without a verified word may begin over every machine that runs no program
may_begin : (plan : PlanValue) (patience : ℕ) (machine : Machine) → IsReadyMachine machine → MayBegin (begun plan 0 false patience) machine
may_begin plan patience machine ready = record {
  begun = refl;
  console = ready.console;
  stopped = ready.stopped;
  verified = record { lies = λ i below. absurd (omega arith); stands = λ i below. absurd (omega arith) };
}

holds_again : (address old patience : ℕ) (plan : PlanValue) (last : Core) (heard : List Heard) (said : List Item) → IsPlanOfWord address old plan → IsHost (begun plan 0 false patience) →
    last ≡ led (begun plan 0 false patience) heard → said ≡ dialogue (begun plan 0 false patience) heard → last.plan ≡ plan → last.verified ≡ length last.plan.words → HoldsAgain address old said
holds_again address old patience plan last heard said of host led_to said_is same all machine now lost ready honest =
    let first : Core = begun plan 0 false patience in
    let trust : IsTrustworthy first last said 0 =
    subst (λ (core : Core). IsTrustworthy first core said 0) (sym led_to) (subst (λ items. IsTrustworthy first (led first heard) items 0) (sym said_is) (trustworthy first heard host)) in
    holds machine.memory address old last now.memory _ (lost + 0) (ap (λ (p : PlanValue). p.words) same ∙ of.words) all (trust machine now lost (may_begin plan patience machine ready) honest)

-- ---- what was driven

pub again_of : (stop : Stop) (address old patience turns : ℕ) (plan : PlanValue) (last : Core) (before after : SessionTold Kept) →
    IsPlanOfWord address old plan → IsHost (begun plan 0 false patience) → IsHost last → last.plan ≡ plan → TellsEnd stop (ended last.phase) →
    (session : LoadSession turns (driving (begun plan 0 false patience) last (Some stop)) before after) → is_loaded stop ≡ true → HoldsAgain address old session.said
again_of (Ended Loaded) address old patience turns plan last before after of first host same end session is =
    holds_again address old patience plan last session.heard session.said of first (core_is turns (driving (begun plan 0 false patience) last (Some (Ended Loaded))) before after session) (session_said turns (driving (begun plan 0 false patience) last (Some (Ended Loaded))) before after session) same (loaded_at last.phase (basis_of last) end host.fits).0
again_of (Ended Started) address old patience turns plan last before after of first host same end session is = absurd (cc is)
again_of (Ended Uncertain) address old patience turns plan last before after of first host same end session is = absurd (cc is)
again_of (Ended MaybeStarted) address old patience turns plan last before after of first host same end session is = absurd (cc is)
again_of (Ended GaveUp) address old patience turns plan last before after of first host same end session is = absurd (cc is)
again_of (Ended (NoWord a)) address old patience turns plan last before after of first host same end session is = absurd (cc is)
again_of (Ended (WontHold a)) address old patience turns plan last before after of first host same end session is = absurd (cc is)
again_of (KeepFailed fault) address old patience turns plan last before after of first host same end session is = absurd (cc is)
again_of (CutOff cut) address old patience turns plan last before after of first host same end session is = absurd (cc is)

-- the same session, over a line that tells from there on
told_alone : (turns : ℕ) (stop : Stop) (core last : Core) (before after : SessionTold Kept) → (session : LoadSession turns (driving core last (Some stop)) before after) →
    LoadSession turns (driving core last (Some stop)) (session_told (Some []) before.kept) (session_told (Some session.said) after.kept)
told_alone turns stop core last before after session = record {
  heard = session.heard;
  said = session.said;
  given = session.given;
  kept = session.kept;
  host = session.host;
  goes_on = session.goes_on;
  within = session.within;
  done = session.done;
  news = session.news;
  on_line = refl;
  at_keeper = session.at_keeper;
}

put_by : (options : ProbeOptions) (old : ℕ) (plan : PlanValue) (last : Core) (stop : Stop) (line line' : Option (List Item)) (kept : List Kept) →
    IsPlanOfWord options.address old plan → IsHost (begun plan 0 false options.patience) → IsHost last → last.plan ≡ plan → TellsEnd stop (ended last.phase) →
    LoadSession (turns_of options.patience) (driving (begun plan 0 false options.patience) last (Some stop)) (session_told line (Some [])) (session_told line' (Some kept)) → OnLine (PutsBack options old (is_loaded stop)) line line'
put_by options old plan last stop line line' kept of first host same end session =
    one (PutsBack options old (is_loaded stop)) line line' session.said (record {
      said = session.said;
      part = refl;
      plan = plan;
      plan_is = of;
      last = last;
      stop = stop;
      kept = kept;
      session = told_alone (turns_of options.patience) stop (begun plan 0 false options.patience) last (session_told line (Some [])) (session_told line' (Some kept)) session;
      end = end;
      is_back_is = refl;
      again = again_of stop options.address old options.patience (turns_of options.patience) plan last (session_told line (Some [])) (session_told line' (Some kept)) of first host same end session;
    }) session.on_line

pub put_back_by : (options : ProbeOptions) (deposit : Deposit) (turns : ℕ) (last : Core) (stop : Stop) (is_back : Bool) (line line' : Option (List Item)) (kept : List Kept) →
    IsHost last → last.plan ≡ deposit.core.plan → TellsEnd stop (ended last.phase) → is_back ≡ is_loaded stop → turns ≡ turns_of options.patience →
    LoadSession turns (driving deposit.core last (Some stop)) (session_told line (Some deposit.keeper.kept)) (session_told line' (Some kept)) →
    (old : ℕ) → IsDeposit options old deposit → OnLine (PutsBack options old is_back) line line'
put_back_by options deposit turns last stop is_back line line' kept host same end is limit session old of =
    subst (λ back. OnLine (PutsBack options old back) line line') (sym is)
    (put_by options old deposit.core.plan last stop line line' kept of.plan (subst IsHost of.begun_is of.host) host same end
    (subst (λ ks. LoadSession (turns_of options.patience) (driving (begun deposit.core.plan 0 false options.patience) last (Some stop)) (session_told line (Some ks)) (session_told line' (Some kept))) of.empty
    (subst (λ (core : Core). LoadSession (turns_of options.patience) (driving core last (Some stop)) (session_told line (Some deposit.keeper.kept)) (session_told line' (Some kept))) of.begun_is
    (subst (λ (n : ℕ). LoadSession n (driving deposit.core last (Some stop)) (session_told line (Some deposit.keeper.kept)) (session_told line' (Some kept))) limit session))))
