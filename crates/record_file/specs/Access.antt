-- How files are opened.
use Rattle.std.specs.Prelude.{true}
use Rattle.std.specs.Fs.{new_options, with_create, with_create_new, with_read, with_write}
use Rattle.std.specs.declared.fs.options.OpenOptions.{OpenOptions}
use Rattle.record_file.specs.declared.disk.Access.{Access}
use Rattle.record_file.specs.declared.disk.Access.TheVariants.{ReadOnly, ReadWrite, New, Created}

-- to be read, and, but for the first, to be written; one that is not there is made for the last two, and one that is there is refused to the first
-- of these. None is cut
abbrev pub options_of : Access → OpenOptions
options_of ReadOnly = with_read new_options true
options_of ReadWrite = with_write (with_read new_options true) true
options_of New = with_create_new (with_write (with_read new_options true) true) true
options_of Created = with_create (with_write (with_read new_options true) true) true
