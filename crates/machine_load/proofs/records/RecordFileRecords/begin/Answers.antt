use Rattle.std.specs.Prelude.{option_map}
use Rattle.record_file.specs.Known.{known_of}
use Rattle.machine_load.proofs.OnDisk.{begin_answered}
use Rattle.machine_load.proofs.records.RecordFileRecords.begin.Goals as goal

pub returns-clause-disk : goal.returns-clause-disk
returns-clause-disk g c = begin_answered
    (record {
      asked = g.D.Disk.asked c.args.self.now.disk;
      name = c.args.self.now.name.now;
      known = option_map (known_of g.D.File.DiskFile.written) c.args.self.now.held;
      holds = g.D.Disk.holds c.args.self.now.disk c.args.self.now.name.now;
    })
    (record {
      asked = g.D.Disk.asked c.begin.new.self.disk;
      name = c.begin.new.self.name.now;
      known = option_map (known_of g.D.File.DiskFile.written) c.begin.new.self.held;
      holds = g.D.Disk.holds c.begin.new.self.disk c.begin.new.self.name.now;
    })
    c.begin.result _ c.begin.ensures.name c.begin.ensures.asked c.begin.ensures.failed c.begin.ensures.remains c.begin.ensures.not_held
