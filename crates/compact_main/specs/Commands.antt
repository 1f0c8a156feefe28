-- The words that the program takes.
use Rattle.std.specs.Prelude.{◌≡◌, ℕ, ◌≤◌, false, true, List, [], ◌∷◌, map, codes, decimal}
use Rattle.std.specs.Prelude.{None, Some, unwrap_or, if◌then◌else◌}
use Rattle.std.specs.String.{string_bytes}
use Rattle.std.specs.declared.string.String.{String}
use Rattle.std.specs.declared.alloc.Global.{Global}
use Rattle.compact_types.specs.declared.limits.TheConstants.{MOST_PITCH}
use Rattle.workers.specs.declared.several.TheConstants.{MOST_WORKERS}
use Rattle.compact_main.specs.declared.sample.TheConstants.{MOST_SAMPLE}
use Rattle.compact_main.specs.declared.command.Command.{Command}
use Rattle.compact_main.specs.declared.command.Command.TheVariants.{Draw, Check, Measure, Verify, Sample}
use Rattle.compact_main.specs.declared.command.Form.{Form}
use Rattle.compact_main.specs.declared.command.Form.TheVariants.{Plain, Certified}
use Rattle.compact_main.specs.declared.options.Options.{Options}

-- the bytes of each word
abbrev pub texts_of : List (String Global) → List (List ℕ)
texts_of words = map string_bytes words

-- the word is the digits of a number from 1 to the greatest, without a sign and without a leading
-- zero
pub record IsNumberTo (greatest : ℕ) (word : List ℕ) (number : ℕ) : Type 0 where
  pub some : 1 ≤ number
  pub most : number ≤ greatest
  pub digits : word ≡ decimal number

-- no option is given
abbrev pub no_options : Options
no_options = record { plain = false; pitch = None; workers = None }

-- the words are these options, in any order and each at most once
pub data AreOptions : List (List ℕ) → Options → Type 0 where
  no_words : AreOptions [] no_options
  plain_first : (word : List ℕ) (rest : List (List ℕ)) (options : Options) →
      word ≡ codes "--plain" → options.plain ≡ false → AreOptions rest options →
      AreOptions (word ∷ rest) (record options { plain = true })
  pitch_first : (word digits : List ℕ) (rest : List (List ℕ)) (options : Options) (pitch : ℕ) →
      word ≡ codes "--pitch" → IsNumberTo MOST_PITCH digits pitch → options.pitch ≡ None →
      AreOptions rest options →
      AreOptions (word ∷ digits ∷ rest) (record options { pitch = Some pitch })
  workers_first : (word digits : List ℕ) (rest : List (List ℕ)) (options : Options) (workers : ℕ) →
      word ≡ codes "--workers" → IsNumberTo MOST_WORKERS digits workers → options.workers ≡ None →
      AreOptions rest options →
      AreOptions (word ∷ digits ∷ rest) (record options { workers = Some workers })

-- a drawing is certified unless it is to be plain
abbrev pub form_of : Options → Form
form_of options = if options.plain then Plain else Certified

-- one worker searches unless another number is given
abbrev pub workers_of : Options → ℕ
workers_of options = unwrap_or options.workers 1

-- the words are options that ask for a drawing of this pitch, 1 if none is given, in this form
abbrev pub AskForDrawing : List (List ℕ) → ℕ → Form → Type 0
AskForDrawing words pitch form =
    (options : Options) × AreOptions words options
    × (pitch ≡ unwrap_or options.pitch 1) × (form ≡ form_of options)

-- the words ask for this command
abbrev pub Asks : List (List ℕ) → Command → Type 0
Asks words (Draw pitch form) =
    (options : List (List ℕ)) × (words ≡ codes "draw" ∷ options)
    × AskForDrawing options pitch form
Asks words Check = words ≡ codes "check" ∷ []
Asks words Measure = words ≡ codes "measure" ∷ []
Asks words Verify = words ≡ codes "verify" ∷ []
Asks words (Sample number) =
    (digits : List ℕ) × (words ≡ codes "sample" ∷ digits ∷ [])
    × IsNumberTo MOST_SAMPLE digits number

-- the words, which ask for this command, ask for so many workers: a drawing for those of its
-- options, and every other command for 1
abbrev pub AskForWorkers : List (List ℕ) → Command → ℕ → Type 0
AskForWorkers words (Draw pitch form) workers =
    (options : List (List ℕ)) × (words ≡ codes "draw" ∷ options)
    × ((given : Options) × AreOptions options given × (workers ≡ workers_of given))
AskForWorkers words Check workers = workers ≡ 1
AskForWorkers words Measure workers = workers ≡ 1
AskForWorkers words Verify workers = workers ≡ 1
AskForWorkers words (Sample number) workers = workers ≡ 1

-- a search can have so many workers
abbrev pub IsTeam : ℕ → Type 0
IsTeam workers = (1 ≤ workers) × (workers ≤ MOST_WORKERS)

-- the number of the command is within its limits: with its pitch the coordinates of a drawing can
-- be read again, and a sample has few vertices
abbrev pub IsCommandWithinLimits : Command → Type 0
IsCommandWithinLimits (Draw pitch form) = (1 ≤ pitch) × (pitch ≤ MOST_PITCH)
IsCommandWithinLimits Check = Unit {0}
IsCommandWithinLimits Measure = Unit {0}
IsCommandWithinLimits Verify = Unit {0}
IsCommandWithinLimits (Sample number) = (1 ≤ number) × (number ≤ MOST_SAMPLE)

-- this command is asked for, and no other
abbrev pub IsThe : Command → Command → Type 0
IsThe command asked = asked ≡ command
