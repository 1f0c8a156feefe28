-- Options and commands that were found in words.
use Rattle.std.specs.Prelude.{ℕ, List, Option, None, Some}
use Rattle.compact_main.specs.declared.command.Command.{Command}
use Rattle.compact_main.specs.declared.options.Options.{Options}
use Rattle.compact_main.specs.declared.words.Request.{Request}
use Rattle.compact_main.specs.Commands.{AreOptions, Asks, AskForWorkers}

-- the words are these options, or are not options
abbrev pub AreFound : List (List ℕ) → Option Options → Type 0
AreFound words None = (options : Options) → AreOptions words options → ⊥
AreFound words (Some options) = AreOptions words options

-- the words ask for what is requested, with so many workers, or for no command
abbrev pub IsRequest : List (List ℕ) → Option Request → Type 0
IsRequest words None = (command : Command) → Asks words command → ⊥
IsRequest words (Some request) =
    Asks words request.command × AskForWorkers words request.command request.workers
