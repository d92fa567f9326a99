use Rattle.load_record.specs.RecordText.{record_text}
use Rattle.load_record.proofs.RecordLaws.{record_made, record_short, front_read}
use Rattle.load_record.proofs.law.cut_record.Goals as goal

pub returns : goal.returns
returns c = λ version plan k mark front rest sound fine e.
    front_read version plan (record_text version plan k mark) front rest k mark (record_short version plan k mark sound) (record_made version plan k mark fine) e
