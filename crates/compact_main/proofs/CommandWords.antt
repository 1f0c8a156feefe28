-- Commands by their words.
use Rattle.std.proofs.Common.{◌≡◌, ℕ, ◌<◌, ◌≤◌, List, [], ◌∷◌, length, get_or, Option, None, Some, refl, sym, ap, ◌∙◌, subst, arith}
use Rattle.std.specs.Prelude.{codes, unwrap_or, IfSome}
use Rattle.std.specs.String.{string_bytes}
use Rattle.std.specs.declared.string.String.{String}
use Rattle.std.specs.declared.alloc.Global.{Global}
use Rattle.std.proofs.lemmas.List.{length-map}
use Rattle.compact_types.specs.declared.limits.TheConstants.{MOST_PITCH}
use Rattle.compact_main.specs.declared.sample.TheConstants.{MOST_SAMPLE}
use Rattle.compact_main.specs.declared.command.Command.{Command}
use Rattle.compact_main.specs.declared.command.Command.TheVariants as commands
use Rattle.compact_main.specs.declared.command.Form.{Form}
use Rattle.compact_main.specs.declared.options.Options.{Options}
use Rattle.compact_main.specs.declared.words.Request.{Request}
use Rattle.compact_main.specs.Commands.{texts_of, IsNumberTo, AreOptions, form_of, workers_of, AskForDrawing, Asks, AskForWorkers, IsTeam, IsCommandWithinLimits}
use Rattle.compact_main.specs.Commands.AreOptions.{no_words, plain_first, pitch_first, workers_first}
use Rattle.compact_main.specs.inner.WordOptions.{AreFound, IsRequest}
use Rattle.compact_main.proofs.OptionWords.{one_number, one_options}

-- commands by their first word
pub as_drawing : (command : List ℕ) (options : List (List ℕ)) (result : Option Request) → command ≡ codes "draw" →
    IsRequest (codes "draw" ∷ options) result → IsRequest (command ∷ options) result
as_drawing command options result is asked = subst (λ (w : List ℕ). IsRequest (w ∷ options) result) (sym is) asked

pub no_drawing : (options : List (List ℕ)) → AreFound options None → IsRequest (codes "draw" ∷ options) None
no_drawing options none (commands.Draw pitch form) (others, same, (found, are, of, is)) =
    let equal : others ≡ options = cc in none found (subst (λ (o : List (List ℕ)). AreOptions o found) equal are)
no_drawing options none commands.Check same = cc
no_drawing options none commands.Measure same = cc
no_drawing options none commands.Verify same = cc
no_drawing options none (commands.Sample number) (digits, same, of) = cc

pub some_drawing : (options : List (List ℕ)) (found : Options) (pitch : ℕ) (form : Form) → pitch ≡ unwrap_or found.pitch 1 → form ≡ form_of found →
    AreFound options (Some found) → Asks (codes "draw" ∷ options) (commands.Draw pitch form)
some_drawing options found pitch form of is are = (options, refl, (found, are, of, is))

pub some_workers : (options : List (List ℕ)) (found : Options) (pitch workers : ℕ) (form : Form) → workers ≡ workers_of found →
    AreFound options (Some found) → AskForWorkers (codes "draw" ∷ options) (commands.Draw pitch form) workers
some_workers options found pitch workers form of are = (options, refl, (found, are, of))

not_lone : (command word : List ℕ) (options : List (List ℕ)) → 0 < length options → command ∷ options ≡ word ∷ [] → ⊥
not_lone command word options some same = let none : options ≡ [] = cc in let long : length options ≡ 0 = ap length none in omega (arith, some, long)

pub no_command : (command : List ℕ) (options : List (List ℕ)) → (command ≡ codes "draw" → ⊥) → (command ≡ codes "sample" → ⊥) → 0 < length options →
    IsRequest (command ∷ options) None
no_command command options no_draw no_sample some (commands.Draw pitch form) (others, same, asked) = no_draw cc
no_command command options no_draw no_sample some commands.Check same = not_lone command (codes "check") options some same
no_command command options no_draw no_sample some commands.Measure same = not_lone command (codes "measure") options some same
no_command command options no_draw no_sample some commands.Verify same = not_lone command (codes "verify") options some same
no_command command options no_draw no_sample some (commands.Sample number) (digits, same, of) = no_sample cc

pub no_such_command : (command : List ℕ) → (command ≡ codes "draw" → ⊥) → (command ≡ codes "check" → ⊥) → (command ≡ codes "measure" → ⊥) →
    (command ≡ codes "verify" → ⊥) → IsRequest (command ∷ []) None
no_such_command command no_draw no_check no_measure no_verify (commands.Draw pitch form) (others, same, asked) = no_draw cc
no_such_command command no_draw no_check no_measure no_verify commands.Check same = no_check cc
no_such_command command no_draw no_check no_measure no_verify commands.Measure same = no_measure cc
no_such_command command no_draw no_check no_measure no_verify commands.Verify same = no_verify cc
no_such_command command no_draw no_check no_measure no_verify (commands.Sample number) (digits, same, of) = cc

-- a sample, by its number
pub as_sample : (command : List ℕ) (options : List (List ℕ)) (result : Option Request) → command ≡ codes "sample" →
    IsRequest (codes "sample" ∷ options) result → IsRequest (command ∷ options) result
as_sample command options result is asked = subst (λ (w : List ℕ). IsRequest (w ∷ options) result) (sym is) asked

pub no_sample_of : (digits : List ℕ) → ((n : ℕ) → IsNumberTo MOST_SAMPLE digits n → ⊥) → IsRequest (codes "sample" ∷ digits ∷ []) None
no_sample_of digits none (commands.Draw pitch form) (others, same, asked) = cc
no_sample_of digits none commands.Check same = cc
no_sample_of digits none commands.Measure same = cc
no_sample_of digits none commands.Verify same = cc
no_sample_of digits none (commands.Sample number) (other, same, of) =
    let equal : other ≡ digits = cc in none number (subst (λ (d : List ℕ). IsNumberTo MOST_SAMPLE d number) equal of)

first_of : (a b : List ℕ) (x y : List (List ℕ)) → a ∷ x ≡ b ∷ y → a ≡ b
first_of a b x y same = cc

sample_is_no_verify : codes "sample" ≡ codes "verify" → ⊥
sample_is_no_verify both = let at : 115 ≡ 118 = ap (λ (word : List ℕ). get_or word 0 0) both in omega (arith, at)

not_one_text : (words : List (List ℕ)) → (length words ≡ 1 → ⊥) → IsRequest (codes "sample" ∷ words) None
not_one_text words many (commands.Draw pitch form) (others, same, asked) = cc
not_one_text words many commands.Check same = cc
not_one_text words many commands.Measure same = cc
not_one_text words many commands.Verify same = sample_is_no_verify (first_of (codes "sample") (codes "verify") words [] same)
not_one_text words many (commands.Sample number) (digits, same, of) =
    let one : words ≡ digits ∷ [] = cc in many (ap length one)

pub not_one_word : (words : List (String Global)) → (length words ≡ 1 → ⊥) → IsRequest (codes "sample" ∷ texts_of words) None
not_one_word words many = not_one_text (texts_of words) (λ one. many (sym (length-map words string_bytes) ∙ one))

-- the texts of words
pub some_texts : (words : List (String Global)) → 0 < length words → 0 < length (texts_of words)
some_texts words some = let is = length-map words string_bytes in omega (arith, is, some)

pub no_texts : (words : List (String Global)) → (0 < length words → ⊥) → texts_of words ≡ []
no_texts [] none = refl
no_texts (word ∷ words) none = absurd (none (omega arith))

-- the pitch that is asked for is one
within : {words : List (List ℕ)} {options : Options} → AreOptions words options → (1 ≤ unwrap_or options.pitch 1) × (unwrap_or options.pitch 1 ≤ MOST_PITCH)
within no_words = (omega arith, omega arith)
within (plain_first word rest options is none own) = within own
within (pitch_first word digits rest options pitch is of none own) = (of.some, of.most)
within (workers_first word digits rest options workers is of none own) = within own

-- as many workers are asked for as a search can have
team : {words : List (List ℕ)} {options : Options} → AreOptions words options → IsTeam (workers_of options)
team no_words = (omega arith, omega arith)
team (plain_first word rest options is none own) = team own
team (pitch_first word digits rest options pitch is of none own) = team own
team (workers_first word digits rest options workers is of none own) = (of.some, of.most)

team_asked : (words : List (List ℕ)) (command : Command) (workers : ℕ) → AskForWorkers words command workers → IsTeam workers
team_asked words (commands.Draw pitch form) workers (options, is, (found, are, of)) = subst IsTeam (sym of) (team are)
team_asked words commands.Check workers is = subst IsTeam (sym is) (omega arith, omega arith)
team_asked words commands.Measure workers is = subst IsTeam (sym is) (omega arith, omega arith)
team_asked words commands.Verify workers is = subst IsTeam (sym is) (omega arith, omega arith)
team_asked words (commands.Sample number) workers is = subst IsTeam (sym is) (omega arith, omega arith)

pub team_found : (words : List (List ℕ)) (result : Option Request) → IsRequest words result → IfSome result (λ request. IsTeam request.workers)
team_found words None none = tt
team_found words (Some request) asked = team_asked words request.command request.workers asked.1

pub number_asked : (words : List (List ℕ)) (command : Command) → Asks words command → IsCommandWithinLimits command
number_asked words (commands.Draw pitch form) (options, is, (found, are, of, same)) =
    subst (λ (n : ℕ). (1 ≤ n) × (n ≤ MOST_PITCH)) (sym of) (within are)
number_asked words commands.Check is = tt
number_asked words commands.Measure is = tt
number_asked words commands.Verify is = tt
number_asked words (commands.Sample number) (digits, is, of) = (of.some, of.most)

pub one_drawing : (words : List (List ℕ)) (p q : ℕ) (f g : Form) → AskForDrawing words p f → AskForDrawing words q g → (p ≡ q) × (f ≡ g)
one_drawing words p q f g (a, are, of, is) (b, too, of_too, is_too) =
    let same = one_options words a b are too in
    (of ∙ ap (λ (o : Options). unwrap_or o.pitch 1) same ∙ sym of_too, is ∙ ap form_of same ∙ sym is_too)

-- the words ask for one command at most
first_word : (words : List (List ℕ)) {a b : List ℕ} {rest others : List (List ℕ)} → words ≡ a ∷ rest → words ≡ b ∷ others → a ≡ b
first_word words p q = let both = sym p ∙ q in cc

pub one_command : (words : List (List ℕ)) (a b : Command) → Asks words a → Asks words b → a ≡ b
one_command words (commands.Draw a f) (commands.Draw b g) (po, p, pa) (qo, q, qa) =
    let both = sym p ∙ q in
    let same : po ≡ qo = cc in
    let equal = one_drawing qo a b f g (subst (λ (o : List (List ℕ)). AskForDrawing o a f) same pa) qa in
    λ i. commands.Draw (equal.0 i) (equal.1 i)
one_command words (commands.Draw a f) commands.Check (po, p, pa) q = let no : codes "draw" ≡ codes "check" = first_word words p q in cc
one_command words (commands.Draw a f) commands.Measure (po, p, pa) q = let no : codes "draw" ≡ codes "measure" = first_word words p q in cc
one_command words (commands.Draw a f) commands.Verify (po, p, pa) q = let no : codes "draw" ≡ codes "verify" = first_word words p q in cc
one_command words (commands.Draw a f) (commands.Sample b) (po, p, pa) (qd, q, qa) = let no : codes "draw" ≡ codes "sample" = first_word words p q in cc
one_command words commands.Check (commands.Draw b g) p (qo, q, qa) = let no : codes "check" ≡ codes "draw" = first_word words p q in cc
one_command words commands.Check commands.Check p q = refl
one_command words commands.Check commands.Measure p q = let no : codes "check" ≡ codes "measure" = first_word words p q in cc
one_command words commands.Check commands.Verify p q = let no : codes "check" ≡ codes "verify" = first_word words p q in cc
one_command words commands.Check (commands.Sample b) p (qd, q, qa) = let no : codes "check" ≡ codes "sample" = first_word words p q in cc
one_command words commands.Measure (commands.Draw b g) p (qo, q, qa) = let no : codes "measure" ≡ codes "draw" = first_word words p q in cc
one_command words commands.Measure commands.Check p q = let no : codes "measure" ≡ codes "check" = first_word words p q in cc
one_command words commands.Measure commands.Measure p q = refl
one_command words commands.Measure commands.Verify p q = let no : codes "measure" ≡ codes "verify" = first_word words p q in cc
one_command words commands.Measure (commands.Sample b) p (qd, q, qa) = let no : codes "measure" ≡ codes "sample" = first_word words p q in cc
one_command words commands.Verify (commands.Draw b g) p (qo, q, qa) = let no : codes "verify" ≡ codes "draw" = first_word words p q in cc
one_command words commands.Verify commands.Check p q = let no : codes "verify" ≡ codes "check" = first_word words p q in cc
one_command words commands.Verify commands.Measure p q = let no : codes "verify" ≡ codes "measure" = first_word words p q in cc
one_command words commands.Verify commands.Verify p q = refl
one_command words commands.Verify (commands.Sample b) p (qd, q, qa) = let no : codes "verify" ≡ codes "sample" = first_word words p q in cc
one_command words (commands.Sample a) (commands.Draw b g) (pd, p, pa) (qo, q, qa) = let no : codes "sample" ≡ codes "draw" = first_word words p q in cc
one_command words (commands.Sample a) commands.Check (pd, p, pa) q = let no : codes "sample" ≡ codes "check" = first_word words p q in cc
one_command words (commands.Sample a) commands.Measure (pd, p, pa) q = let no : codes "sample" ≡ codes "measure" = first_word words p q in cc
one_command words (commands.Sample a) commands.Verify (pd, p, pa) q = let no : codes "sample" ≡ codes "verify" = first_word words p q in cc
one_command words (commands.Sample a) (commands.Sample b) (pd, p, pa) (qd, q, qa) =
    let both = sym p ∙ q in
    let same : pd ≡ qd = cc in
    ap (λ (n : ℕ). commands.Sample n) (one_number MOST_SAMPLE qd a b (omega arith) (subst (λ (d : List ℕ). IsNumberTo MOST_SAMPLE d a) same pa) qa)
