use Rattle.load_record.specs.RecordText.{record_text}
use Rattle.load_record.proofs.RecordLaws.{record_made, record_short, whole_read}
use Rattle.load_record.proofs.law.whole_record.Goals as goal

pub returns : goal.returns
returns c = λ version plan k mark sound fine.
    whole_read version plan (record_text version plan k mark) k mark (record_short version plan k mark sound) (record_made version plan k mark fine)
