-- A command as it is made.
use Rattle.std.specs.Prelude.{◌≡◌, false, IfOk, Result}
use Rattle.clap.specs.Words.{App, app_of}
use Rattle.clap.specs.declared.builder.command.Command.{Command}
use Rattle.clap.specs.declared.builder.command.Command.TheViews.{out-Command}

-- no argument of the command is one of its subcommands too
abbrev pub HasNoGlobals : Command → Type 0
HasNoGlobals command = (out-Command command).has_globals ≡ false

-- a command of this form is made, or memory is refused
abbrev pub Makes : {E : Type 0} → App → Result Command E → Type 0
Makes app made = IfOk made (λ c. (app_of c ≡ app) × HasNoGlobals c)
