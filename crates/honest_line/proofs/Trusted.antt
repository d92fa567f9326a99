-- What a run of the world says of a host that heard an honest line.
use Rattle.std.specs.Prelude.{option_to_list}
use Rattle.std.proofs.Common.{◌≡◌, ℕ, ◌+◌, ◌≤◌, List, [], ◌∷◌, ◌++◌, length, Option, Some, None, refl, arith, ap, sym, subst, ◌∙◌}
use Rattle.std.proofs.lemmas.List.Elements.{Contains-append_left}
use Rattle.line_world.proofs.Halves.{merged-Stands}
use Rattle.odt_machine.specs.Machine.{Machine}
use Rattle.host_core.specs.declared.heard.Heard.{Heard}
use Rattle.host_core.specs.Core.{Core, word_nr}
use Rattle.host_core.specs.Host.{IsHost}
use Rattle.host_core.specs.Laws.{led, replay}
use Rattle.host_core.specs.PhaseTable.{move}
use Rattle.line_world.specs.Scene.{Scene, over}
use Rattle.line_world.specs.Wire.{Wire}
use Rattle.line_world.specs.World.{after, typed}
use Rattle.line_world.specs.Invariant.{IsKept}
use Rattle.line_world.specs.Promises.{EndsAtGo, IsTame, StartsOnce}
use Rattle.line_world.specs.Safe.{IsSafe}
use Rattle.line_world.proofs.Opening.{opening_by_kept}
use Rattle.line_world.proofs.Events.{kept_events, safe_events}
use Rattle.line_world.proofs.Starts.{starts_events}
use Rattle.line_world.proofs.Tame.{tame_of}
use Rattle.host_devices.specs.declared.item.Item.{Item}
use Rattle.host_devices.specs.declared.item.Item.TheVariants.{Sent, Heard as Came}
use Rattle.host_devices.specs.Dialogue.{said, dialogue, keys_of}
use Rattle.honest_line.specs.Moves.{Passes}
use Rattle.honest_line.specs.Honest.{resting}
use Rattle.honest_line.specs.Trust.{MayBegin, IsTrusted, IsTrustworthy}
use Rattle.honest_line.proofs.Wires.{passes_lost}
use Rattle.honest_line.proofs.Runs.{Leads, dialogue_leads}

-- ---- the beginning

pub begin_kept : (core : Core) (machine : Machine) (waiting : List ℕ) → IsHost core → MayBegin core machine → length waiting ≤ 32 → IsKept (over core (resting machine waiting 0))
begin_kept core machine waiting host may few =
    subst (λ c. IsKept (over c (resting machine waiting 0))) (sym may.begun)
    (opening_by_kept machine core.careful core.plan core.verified core.patience waiting may.console (subst IsHost may.begun host) few may.stopped
    (λ i below. (may.verified.lies i below, merged-Stands (word_nr core.plan.words i) _ (may.verified.stands i below))))

-- ---- the run

run_trusted : (w next : Scene) (typing : List ℕ) → IsKept w → Leads w typing next → IsTrusted w.machine.memory next.core next.machine.memory typing next.lost
run_trusted w next typing k run =
    let starts : StartsOnce w.core next.core typing = subst (λ keys. StartsOnce w.core next.core keys) run.keys_are (subst (λ (x : Scene). StartsOnce w.core x.core (typed w run.events)) run.world (starts_events w run.events k)) in
    let tame : IsTame next = subst IsTame run.world (tame_of (after w run.events) (kept_events w run.events k)) in
    record {
      safe = subst (λ (x : Scene). IsSafe w.machine.memory x.core x.machine.memory) run.world (safe_events w run.events k);
      last = starts.last;
      marked = λ h. (starts.marked.0 h).1;
      spent = tame.spent;
      cause = tame.cause;
    }

-- ---- the keys of a dialogue

keys_of_said : (key : Option ℕ) (items : List Item) → keys_of (said key ++ items) ≡ option_to_list key ++ keys_of items
keys_of_said None items = refl
keys_of_said (Some key) items = refl

pub keys_of-dialogue : (things : List Heard) (core : Core) → keys_of (dialogue core things) ≡ replay core things
keys_of-dialogue [] core = refl
keys_of-dialogue (what ∷ things) core =
    keys_of_said (move core what).key (dialogue (move core what).next things) ∙ ap (λ more. option_to_list (move core what).key ++ more) (keys_of-dialogue things (move core what).next)

keys_of_more : (items : List Item) (key : ℕ) → keys_of (items ++ Sent key ∷ []) ≡ keys_of items ++ key ∷ []
keys_of_more [] key = refl
keys_of_more (Sent c ∷ items) key = ap (λ more. c ∷ more) (keys_of_more items key)
keys_of_more (Came what ∷ items) key = keys_of_more items key

-- ---- the whole dialogue

dialogue_trusted : (core : Core) (things : List Heard) (machine : Machine) (waiting : List ℕ) (end : Wire) → IsHost core → MayBegin core machine → length waiting ≤ 32 → Passes (resting machine waiting 0) (dialogue core things) end →
    IsTrusted machine.memory (led core things) end.machine.memory (keys_of (dialogue core things)) end.lost
dialogue_trusted core things machine waiting end host may few passes =
    subst (λ keys. IsTrusted machine.memory (led core things) end.machine.memory keys end.lost) (sym (keys_of-dialogue things core))
    (run_trusted (over core (resting machine waiting 0)) (over (led core things) end) (replay core things) (begin_kept core machine waiting host may few) (dialogue_leads things core (resting machine waiting 0) end passes))

-- a host that led a dialogue over an honest line
pub trustworthy : (core : Core) (things : List Heard) → IsHost core → IsTrustworthy core (led core things) (dialogue core things) 0
trustworthy core things host machine now lost may honest =
    subst (λ n. IsTrusted machine.memory (led core things) now.memory (keys_of (dialogue core things)) n) (honest.lost_is ∙ more lost)
    (subst (λ (m : Machine). IsTrusted machine.memory (led core things) m.memory (keys_of (dialogue core things)) honest.end.lost) honest.machine_is
    (dialogue_trusted core things machine honest.waiting honest.end host may honest.few honest.passes))
  where
    more : (n : ℕ) → n ≡ n + 0
    more n = omega arith

-- ---- the dialogue without its last key

pub ends_front : (xs ys : List ℕ) → EndsAtGo (xs ++ ys) → EndsAtGo xs
ends_front [] ys h = tt
ends_front (x ∷ xs) ys h = (λ e. front xs ys (h.0 e), ends_front xs ys h.1)
  where
    front : (xs ys : List ℕ) → xs ++ ys ≡ [] → xs ≡ []
    front [] ys e = refl
    front (x ∷ xs) ys e = absurd (cc)

unsaid_trusted : (before : List ℕ) (next : Core) (now : List ℕ) (typing : List ℕ) (key lost : ℕ) → IsTrusted before next now (typing ++ key ∷ []) (1 + lost) → IsTrusted before next now typing (lost + 1)
unsaid_trusted before next now typing key lost t =
    subst (λ n. IsTrusted before next now typing n) (turned lost)
    record { safe = t.safe; last = ends_front typing (key ∷ []) t.last; marked = λ h. t.marked (Contains-append_left typing (key ∷ []) 71 h); spent = t.spent; cause = t.cause }
  where
    turned : (n : ℕ) → 1 + n ≡ n + 1
    turned n = omega arith

-- a host whose last key was not sent: the line that it heard is one that lost this key
pub trustworthy_unsaid : (core : Core) (things : List Heard) (items : List Item) (key : ℕ) → IsHost core → dialogue core things ≡ items ++ Sent key ∷ [] → IsTrustworthy core (led core things) items 1
trustworthy_unsaid core things items key host is machine now lost may honest =
    unsaid_trusted machine.memory (led core things) now.memory (keys_of items) key lost
    (subst (λ keys. IsTrusted machine.memory (led core things) now.memory keys (1 + lost)) (ap keys_of is ∙ keys_of_more items key)
    (subst (λ n. IsTrusted machine.memory (led core things) now.memory (keys_of (dialogue core things)) (1 + n)) honest.lost_is
    (subst (λ (m : Machine). IsTrusted machine.memory (led core things) m.memory (keys_of (dialogue core things)) (1 + honest.end.lost)) honest.machine_is
    (dialogue_trusted core things machine honest.waiting (record honest.end { lost = 1 + honest.end.lost }) host may honest.few
    (subst (λ list. Passes (resting machine honest.waiting 0) list (record honest.end { lost = 1 + honest.end.lost })) (sym is) (passes_lost items key (resting machine honest.waiting 0) honest.end honest.passes))))))
