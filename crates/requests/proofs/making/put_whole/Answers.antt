use Rattle.std.proofs.Common.{inl}
use Rattle.requests.proofs.Made.{not_put, put_whole}
use Rattle.requests.proofs.making.put_whole.Goals as goal

pub returns-in-Ok-clause-ok : goal.returns-in-Ok-clause-ok
returns-in-Ok-clause-ok g c = let told = g.S.Shelf.told in put_whole c.args.text.now _ (told c.args.shelf.now) (told c.reserve.new.self) (told c.put.new.self) c.in-Ok.ensures.done c.put.result c.put.ensures.done

pub returns-in-Ok-clause-err : goal.returns-in-Ok-clause-err
returns-in-Ok-clause-err g c = let told = g.S.Shelf.told in not_put c.args.text.now _ (told c.args.shelf.now) (told c.reserve.new.self) (told c.put.new.self) c.in-Ok.ensures.done c.put.result c.put.ensures.done

pub returns-in-Err-clause-err : goal.returns-in-Err-clause-err
returns-in-Err-clause-err g c = inl c.in-Err.ensures.failed
