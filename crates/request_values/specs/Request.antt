-- What a request is about (this project's own).
use Rattle.std.specs.Prelude.{Bool, true, false}
use Rattle.request_values.specs.declared.request.Request.{Request}
use Rattle.request_values.specs.declared.request.Request.TheVariants.{Tape, Machine}
use Rattle.request_values.specs.declared.request.TapeRequest.TheVariants.{Print, Make}

-- the request does nothing but print
abbrev pub only_prints : Request → Bool
only_prints (Tape (Print request)) = true
only_prints (Tape (Make make)) = false
only_prints (Machine request) = false
