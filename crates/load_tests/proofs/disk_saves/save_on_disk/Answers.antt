use Rattle.load_tests.proofs.DiskSaves.{not_saved, saved}
use Rattle.load_tests.proofs.disk_saves.save_on_disk.Goals as goal

pub returns-clause-disk : goal.returns-clause-disk
returns-clause-disk g c = saved c.save.result c.args.options _ _ c.save.ensures.ok

pub returns-clause-disk_in_vain : goal.returns-clause-disk_in_vain
returns-clause-disk_in_vain g c = not_saved c.save.result c.args.options _ _ c.save.ensures.err
