use Rattle.load_tests.proofs.DiskSaves.{saved}
use Rattle.load_tests.proofs.told_shelf.save_on_shelf.Goals as goal

pub returns : goal.returns
returns g c = saved c.save.result c.args.options _ _ c.save.ensures.ok
