use Rattle.std.proofs.Common.{subst}
use Rattle.tape_shelf.specs.declared.shelf.ShelfFault.TheVariants.{PartIsThere}
use Rattle.tape_shelf.specs.Shelf.{NotReserved}
use Rattle.tape_shelf.specs.ShelfTold.{IsDone}
use Rattle.machine_look.proofs.Taking.{took_no_part, took_no_room, took_part, took_room}
use Rattle.machine_look.proofs.saving.take_up.Goals as goal

pub returns-in-Ok-clause-taken : goal.returns-in-Ok-clause-taken
returns-in-Ok-clause-taken g c = took_room c.args.range c.new.result.items c.tape_room.result (g.S.Shelf.is_opened_as c.reserve.new.self) _ _ c.new.ensures.items c.tape_room.ensures c.in-Ok.ensures.done

pub returns-in-Err-PartIsThere-clause-taken : goal.returns-in-Err-PartIsThere-clause-taken
returns-in-Err-PartIsThere-clause-taken g c =
    took_part c.resume.result (λ v. v.items) c.args.range (g.S.Shelf.is_opened_as c.resume.new.self) (g.S.Shelf.told c.args.shelf.now) (g.S.Shelf.told c.reserve.new.self) (g.S.Shelf.told c.resume.new.self)
    (λ folder. subst (λ n. IsDone folder (NotReserved n PartIsThere) (g.S.Shelf.told c.args.shelf.now) (g.S.Shelf.told c.reserve.new.self)) c.tape_room.ensures (subst (λ why. IsDone folder (NotReserved c.tape_room.result why) (g.S.Shelf.told c.args.shelf.now) (g.S.Shelf.told c.reserve.new.self)) c.in-Err-PartIsThere.field-0-is (c.in-Err-PartIsThere.ensures.failed folder)))
    (c.in-Err-PartIsThere.ensures.left c.in-Err-PartIsThere.field-0-is) c.resume.ensures.found c.resume.ensures.left c.resume.ensures.done

pub returns-in-Err-PartIsThere-clause-failed : goal.returns-in-Err-PartIsThere-clause-failed
returns-in-Err-PartIsThere-clause-failed g c =
    took_no_part c.args.range (g.S.Shelf.told c.args.shelf.now) (g.S.Shelf.told c.reserve.new.self) (g.S.Shelf.told c.resume.new.self) c.resume.result
    (λ folder. subst (λ n. IsDone folder (NotReserved n PartIsThere) (g.S.Shelf.told c.args.shelf.now) (g.S.Shelf.told c.reserve.new.self)) c.tape_room.ensures (subst (λ why. IsDone folder (NotReserved c.tape_room.result why) (g.S.Shelf.told c.args.shelf.now) (g.S.Shelf.told c.reserve.new.self)) c.in-Err-PartIsThere.field-0-is (c.in-Err-PartIsThere.ensures.failed folder)))
    (c.in-Err-PartIsThere.ensures.left c.in-Err-PartIsThere.field-0-is) c.resume.ensures.refused c.resume.ensures.failed

pub returns-in-Err : goal.returns-in-Err
returns-in-Err g c = record {
  found = tt;
  taken = tt;
  failed = took_no_room c.args.range c.in-Err.fault (g.S.Shelf.told c.args.shelf.now) (g.S.Shelf.told c.reserve.new.self)
      (λ folder. subst (λ n. IsDone folder (NotReserved n c.in-Err.fault) (g.S.Shelf.told c.args.shelf.now) (g.S.Shelf.told c.reserve.new.self)) c.tape_room.ensures (c.in-Err.ensures.failed folder));
}
