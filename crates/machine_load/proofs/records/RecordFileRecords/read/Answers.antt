use Rattle.std.proofs.Common.{refl}
use Rattle.std.specs.Prelude.{option_map}
use Rattle.record_file.specs.Known.{known_of}
use Rattle.machine_load.proofs.OnDisk.{read_answered}
use Rattle.machine_load.proofs.records.RecordFileRecords.read.Goals as goal

pub returns-clause-disk : goal.returns-clause-disk
returns-clause-disk g c = read_answered (known_of g.D.File.DiskFile.written) c.args.self.now.held c.read.new.self.held
    (record {
      asked = g.D.Disk.asked c.args.self.now.disk;
      name = c.args.self.now.name.now;
      known = option_map (known_of g.D.File.DiskFile.written) c.args.self.now.held;
      holds = g.D.Disk.holds c.args.self.now.disk c.args.self.now.name.now;
    })
    (record {
      asked = g.D.Disk.asked c.read.new.self.disk;
      name = c.read.new.self.name.now;
      known = option_map (known_of g.D.File.DiskFile.written) c.read.new.self.held;
      holds = g.D.Disk.holds c.read.new.self.disk c.read.new.self.name.now;
    })
    c.read.result refl refl c.read.ensures.name c.read.ensures.asked c.read.ensures.text c.read.ensures.plain c.read.ensures.untouched c.read.ensures.failed c.read.ensures.kept
