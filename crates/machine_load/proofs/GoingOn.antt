-- A life behind its stubs, where it looks again and where it does not.
use Rattle.std.proofs.Common.{◌≡◌, ◌∙◌, Bool, true, false, List, Option, Some, None, refl, ap, sym, subst}
use Rattle.host_core.specs.Core.{Core}
use Rattle.engine.specs.Keeping.{IsKeptBy, KeeperCalls}
use Rattle.host_devices.specs.Turns.{most_turns}
use Rattle.load_engine.specs.Driving.{LoadStop as Stop, driving}
use Rattle.load_engine.specs.Driven.{IsDriven, turns_give}
use Rattle.host_devices.specs.Devices.{Devices, LineTold, devices}
use Rattle.host_devices.specs.declared.item.Kept.{Kept}
use Rattle.machine_load.specs.declared.looks.Looks.{Looks}
use Rattle.machine_load.specs.declared.going_on.GoneOn.{GoneOn}
use Rattle.machine_load.specs.declared.load_end.LoadEnd.TheVariants.{Driven}
use Rattle.machine_load.specs.declared.stubs.Stubs.{Stubs}
use Rattle.machine_load.specs.GoneOn.{course_behind}
use Rattle.machine_load.specs.Looks.{AreLooks, behind_any_looks}
use Rattle.machine_load.specs.Parts.{Course, HasGoneOnOver, LooksAgain, held, held_back, host_of}
use Rattle.machine_load.specs.Stubs.{hindrance, host_behind, looks_again}
use Rattle.machine_load.proofs.Driving.{free_behind, held_behind}

pub unseen : (due : Bool) (behind : Core) (here : Devices) → due ≡ false → LooksAgain due behind None here here
unseen due behind here is = subst (λ b. LooksAgain b behind None here here) (sym is) (refl, refl)

pub seen : (due : Bool) (behind : Core) (looks : Looks) (before after : LineTold) (kept : Option (List Kept)) → due ≡ true → AreLooks behind false looks before after
    → LooksAgain due behind (Some looks) (devices before kept) (devices after kept)
seen due behind looks before after kept is looked =
    subst (λ b. LooksAgain b behind (Some looks) (devices before kept) (devices after kept)) (sym is) (record { looks = looks; again_is = refl; looked = looked; kept_same = refl })

-- what held it back, or the host was driven
module _ {K : Type 0} (calls : KeeperCalls K Kept) (first : Core) (stubs : Option Stubs) (gone : GoneOn) (life behind : Core) (line seen_line : LineTold) (keeper : K) (life_is : life ≡ host_behind first stubs) (behind_is : behind ≡ behind_any_looks life gone.again)
    (looks : (kept : Option (List Kept)) → LooksAgain (looks_again stubs) life gone.again (devices line kept) (devices seen_line kept)) where
  abbrev course : Course
  course = course_behind first stubs gone

  looked : LooksAgain (looks_again stubs) (host_behind first stubs) gone.again (devices line (calls.told keeper)) (devices seen_line (calls.told keeper))
  looked = subst (λ (core : Core). LooksAgain (looks_again stubs) core gone.again (devices line (calls.told keeper)) (devices seen_line (calls.told keeper))) life_is (looks (calls.told keeper))

  host_is : (core : Core) → core ≡ behind → core ≡ host_of course
  host_is core is = is ∙ (behind_is ∙ ap (λ (core : Core). behind_any_looks core gone.again) life_is)

  pub stays : Some gone.end ≡ held_back (hindrance stubs) gone.again → gone.core ≡ behind → HasGoneOnOver calls course (held line keeper) (held seen_line keeper)
  stays is core =
      let h = held_behind calls course (devices seen_line (calls.told keeper)) keeper is (host_is gone.core core) in
      record { seen = seen_line; gone = record { looks = looked; host = h.0 }; kept = h.1 }

  pub goes : (host : Core) (stop : Stop) (after : LineTold) (keeper' : K) → None ≡ held_back (hindrance stubs) gone.again → host ≡ behind → gone.end ≡ Driven stop
      → IsDriven most_turns (driving host gone.core (Some stop)) (devices seen_line (calls.told keeper)) (devices after (calls.told keeper'))
      → IsKeptBy calls (turns_give (driving host gone.core (Some stop))) keeper keeper' → HasGoneOnOver calls course (held line keeper) (held after keeper')
  goes host stop after keeper' is same ended driven kept =
      let h = free_behind calls course host stop (devices seen_line (calls.told keeper)) (devices after (calls.told keeper')) keeper keeper' is (host_is host same) ended driven kept in
      record { seen = seen_line; gone = record { looks = looked; host = h.0 }; kept = h.1 }
