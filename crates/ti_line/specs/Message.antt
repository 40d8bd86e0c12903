-- What `clap` says to the user.
use Rattle.std.specs.Prelude.{ℕ, List, string_bytes}
use Rattle.ti_line.specs.declared.message.Message.{Message}

-- the text of a message
abbrev pub message_text : Message → List ℕ
message_text message = string_bytes message.text
