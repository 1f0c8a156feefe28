-- Options: words are options in one way, and five words at most.
use Rattle.std.proofs.Common.{◌≡◌, ◌↔◌, ℕ, ◌+◌, ◌<◌, ◌≤◌, ◌^◌, Bool, true, false, not, List, [], ◌∷◌, ◌-◌, length, get_or, map, take, drop, Option, None, Some, Result, Ok, Err, refl, sym, ap, ◌∙◌, subst, arith}
use Rattle.std.specs.Prelude.{codes, decimal, IsTrue, IfSome, IfNone, MatchOption}
use Rattle.std.specs.Str.Parse.{ParsesUnsigned}
use Rattle.std.specs.String.{string_bytes}
use Rattle.std.specs.declared.string.String.{String}
use Rattle.std.specs.declared.alloc.Global.{Global}
use Rattle.std.proofs.lemmas.Bool.{both_ways}
use Rattle.std.proofs.lemmas.Fmt.{decimal_injective, parse-decimal}
use Rattle.std.proofs.lemmas.List.{length-map, take_rest}
use Rattle.compact_types.specs.declared.limits.TheConstants.{MOST_PITCH}
use Rattle.workers.specs.declared.several.TheConstants.{MOST_WORKERS}
use Rattle.compact_main.specs.declared.options.Options.{Options}
use Rattle.compact_main.specs.Commands.{texts_of, IsNumberTo, no_options, AreOptions}
use Rattle.compact_main.specs.Commands.AreOptions.{no_words, plain_first, pitch_first, workers_first}
use Rattle.compact_main.specs.inner.WordOptions.{AreFound}

-- how many words they are
flag_words : Bool → ℕ
flag_words true = 1
flag_words false = 0

number_words : Option ℕ → ℕ
number_words None = 0
number_words (Some number) = 2

abbrev words_of : Options → ℕ
words_of options = flag_words options.plain + number_words options.pitch + number_words options.workers

option_words : {words : List (List ℕ)} {options : Options} → AreOptions words options → length words ≡ words_of options
unfolding flag_words number_words
option_words no_words = refl
option_words (plain_first word rest options is none own) =
    let few = option_words own in
    let flags = ap flag_words none in
    omega (arith, few, flags)
option_words (pitch_first word digits rest options pitch is of none own) =
    let few = option_words own in
    let numbers = ap number_words none in
    omega (arith, few, numbers)
option_words (workers_first word digits rest options workers is of none own) =
    let few = option_words own in
    let numbers = ap number_words none in
    omega (arith, few, numbers)

few_flags : (plain : Bool) → flag_words plain ≤ 1
unfolding flag_words
few_flags true = omega arith
few_flags false = omega arith

few_numbers : (given : Option ℕ) → number_words given ≤ 2
unfolding number_words
few_numbers None = omega arith
few_numbers (Some number) = omega arith

pub few_options : (words : List (List ℕ)) (options : Options) → AreOptions words options → length words ≤ 5
few_options words options are =
    let is = option_words are in
    let flags = few_flags options.plain in
    let pitches = few_numbers options.pitch in
    let workers = few_numbers options.workers in
    omega (arith, is, flags, pitches, workers)

-- digits say one number
pub one_number : (greatest : ℕ) (digits : List ℕ) (a b : ℕ) → greatest < 2 ^ 32 → IsNumberTo greatest digits a → IsNumberTo greatest digits b → a ≡ b
one_number greatest digits a b few first second =
    decimal_injective a b (let most = first.most in omega (arith, most, few)) (let most = second.most in omega (arith, most, few))
    (sym first.digits ∙ second.digits)

-- the names of options differ
plain_is_no_pitch : codes "--plain" ≡ codes "--pitch" → ⊥
plain_is_no_pitch both = let at : 108 ≡ 105 = ap (λ (word : List ℕ). get_or word 3 0) both in omega (arith, at)

plain_is_no_workers : codes "--plain" ≡ codes "--workers" → ⊥
plain_is_no_workers both = let at : 112 ≡ 119 = ap (λ (word : List ℕ). get_or word 2 0) both in omega (arith, at)

pitch_is_no_workers : codes "--pitch" ≡ codes "--workers" → ⊥
pitch_is_no_workers both = let at : 112 ≡ 119 = ap (λ (word : List ℕ). get_or word 2 0) both in omega (arith, at)

-- words are options in one way
one_options_at : {words : List (List ℕ)} {a b : Options} → AreOptions words a → AreOptions words b → a ≡ b
one_options_at no_words no_words = refl
one_options_at (plain_first word rest a is none own) (plain_first word' rest' b too none_too other) =
    ap (λ (options : Options). record options { plain = true }) (one_options_at own other)
one_options_at (plain_first word rest a is none own) (pitch_first word' digits rest' b n too of none_too other) = absurd (plain_is_no_pitch (sym is ∙ too))
one_options_at (plain_first word rest a is none own) (workers_first word' digits rest' b n too of none_too other) = absurd (plain_is_no_workers (sym is ∙ too))
one_options_at (pitch_first word digits rest a m is of none own) (plain_first word' rest' b too none_too other) = absurd (plain_is_no_pitch (sym too ∙ is))
one_options_at (pitch_first word digits rest a m is of none own) (pitch_first word' digits' rest' b n too of_too none_too other) =
    let rests = one_options_at own other in
    let same = one_number MOST_PITCH digits m n (omega arith) of of_too in
    λ i. record (rests i) { pitch = Some (same i) }
one_options_at (pitch_first word digits rest a m is of none own) (workers_first word' digits' rest' b n too of_too none_too other) =
    absurd (pitch_is_no_workers (sym is ∙ too))
one_options_at (workers_first word digits rest a m is of none own) (plain_first word' rest' b too none_too other) =
    absurd (plain_is_no_workers (sym too ∙ is))
one_options_at (workers_first word digits rest a m is of none own) (pitch_first word' digits' rest' b n too of_too none_too other) =
    absurd (pitch_is_no_workers (sym too ∙ is))
one_options_at (workers_first word digits rest a m is of none own) (workers_first word' digits' rest' b n too of_too none_too other) =
    let rests = one_options_at own other in
    let same = one_number MOST_WORKERS digits m n (omega arith) of of_too in
    λ i. record (rests i) { workers = Some (same i) }

pub one_options : (words : List (List ℕ)) (a b : Options) → AreOptions words a → AreOptions words b → a ≡ b
one_options words a b first second = one_options_at first second

-- what follows the first option
record IsAfterPlain (rest : List (List ℕ)) : Type 0 where
  options : Options
  none : options.plain ≡ false
  own : AreOptions rest options

after_plain : {word : List ℕ} {rest : List (List ℕ)} {options : Options} → word ≡ codes "--plain" → AreOptions (word ∷ rest) options → IsAfterPlain rest
after_plain is (plain_first word rest options same none own) = record { options = options; none = none; own = own }
after_plain is (pitch_first word digits rest options pitch same of none own) = absurd (plain_is_no_pitch (sym is ∙ same))
after_plain is (workers_first word digits rest options workers same of none own) = absurd (plain_is_no_workers (sym is ∙ same))

record IsAfterPitch (digits : List ℕ) (rest : List (List ℕ)) : Type 0 where
  options : Options
  none : options.pitch ≡ None
  own : AreOptions rest options
  number : ℕ
  of : IsNumberTo MOST_PITCH digits number

after_pitch : {word digits : List ℕ} {rest : List (List ℕ)} {options : Options} → word ≡ codes "--pitch" → AreOptions (word ∷ digits ∷ rest) options →
    IsAfterPitch digits rest
after_pitch is (plain_first word rest options same none own) = absurd (plain_is_no_pitch (sym same ∙ is))
after_pitch is (pitch_first word digits rest options pitch same of none own) =
    record { options = options; none = none; own = own; number = pitch; of = of }
after_pitch is (workers_first word digits rest options workers same of none own) = absurd (pitch_is_no_workers (sym is ∙ same))

record IsAfterWorkers (digits : List ℕ) (rest : List (List ℕ)) : Type 0 where
  options : Options
  none : options.workers ≡ None
  own : AreOptions rest options
  number : ℕ
  of : IsNumberTo MOST_WORKERS digits number

after_workers : {word digits : List ℕ} {rest : List (List ℕ)} {options : Options} → word ≡ codes "--workers" → AreOptions (word ∷ digits ∷ rest) options →
    IsAfterWorkers digits rest
after_workers is (plain_first word rest options same none own) = absurd (plain_is_no_workers (sym same ∙ is))
after_workers is (pitch_first word digits rest options pitch same of none own) = absurd (pitch_is_no_workers (sym same ∙ is))
after_workers is (workers_first word digits rest options workers same of none own) =
    record { options = options; none = none; own = own; number = workers; of = of }

-- words that are not options
no_name : {word : List ℕ} {rest : List (List ℕ)} {options : Options} → (word ≡ codes "--plain" → ⊥) → (word ≡ codes "--pitch" → ⊥) →
    (word ≡ codes "--workers" → ⊥) → AreOptions (word ∷ rest) options → ⊥
no_name no_plain no_pitch no_workers (plain_first word rest options same none own) = no_plain same
no_name no_plain no_pitch no_workers (pitch_first word digits rest options pitch same of none own) = no_pitch same
no_name no_plain no_pitch no_workers (workers_first word digits rest options workers same of none own) = no_workers same

lone_name : {word : List ℕ} {options : Options} → (word ≡ codes "--plain" → ⊥) → AreOptions (word ∷ []) options → ⊥
lone_name no_plain (plain_first word rest options same none own) = no_plain same

not_true : (x : Bool) → not x ≡ true → x ≡ false
not_true true is = absurd cc
not_true false is = refl

not_false : (x : Bool) → not x ≡ false → x ≡ true
not_false true is = refl
not_false false is = absurd cc

-- the options with one more before them
module _ (words : List (List ℕ)) where
  pub with_plain : (rest : Option Options) (found : Options) → rest ≡ Some found → not found.plain ≡ true → AreFound words rest →
      AreOptions (codes "--plain" ∷ words) (record found { plain = true })
  with_plain rest found is none are =
      let own : AreOptions words found = subst (AreFound words) is are in
      plain_first (codes "--plain") words found refl (not_true found.plain none) own

  pub plain_twice : (rest : Option Options) (found : Options) → rest ≡ Some found → not found.plain ≡ false → AreFound words rest →
      AreFound (codes "--plain" ∷ words) None
  plain_twice rest found is plain are options more =
      let own : AreOptions words found = subst (AreFound words) is are in
      let after = after_plain refl more in
      let same : found ≡ after.options = one_options words found after.options own after.own in
      both_ways found.plain (ap (λ (o : Options). o.plain) same ∙ after.none) (not_false found.plain plain)

  pub pitch_twice : (digits : List ℕ) (found : Options) (pitch : ℕ) → found.pitch ≡ Some pitch → AreOptions words found →
      AreFound (codes "--pitch" ∷ digits ∷ words) None
  pitch_twice digits found pitch is are options more =
      let after = after_pitch refl more in
      let same : found ≡ after.options = one_options words found after.options are after.own in
      let both = sym is ∙ ap (λ (o : Options). o.pitch) same ∙ after.none in absurd cc

  pub with_number : (digits : List ℕ) (found : Options) (pitch : Option ℕ) (result : Option Options) → found.pitch ≡ None →
      IfSome pitch (IsNumberTo MOST_PITCH digits) → IfNone pitch ((n : ℕ) → IsNumberTo MOST_PITCH digits n → ⊥) →
      MatchOption pitch (result ≡ None) (λ n. result ≡ Some (record found { pitch = Some n })) →
      AreOptions words found → AreFound (codes "--pitch" ∷ digits ∷ words) result
  with_number digits found None result none some unsaid is are =
      subst (AreFound (codes "--pitch" ∷ digits ∷ words)) (sym is)
      (λ options more. (let after = after_pitch refl more in unsaid after.number after.of))
  with_number digits found (Some n) result none some unsaid is are =
      subst (AreFound (codes "--pitch" ∷ digits ∷ words)) (sym is)
      (pitch_first (codes "--pitch") digits words found n refl some none are)

  pub workers_twice : (digits : List ℕ) (found : Options) (workers : ℕ) → found.workers ≡ Some workers → AreOptions words found →
      AreFound (codes "--workers" ∷ digits ∷ words) None
  workers_twice digits found workers is are options more =
      let after = after_workers refl more in
      let same : found ≡ after.options = one_options words found after.options are after.own in
      let both = sym is ∙ ap (λ (o : Options). o.workers) same ∙ after.none in absurd cc

  pub with_team : (digits : List ℕ) (found : Options) (workers : Option ℕ) (result : Option Options) → found.workers ≡ None →
      IfSome workers (IsNumberTo MOST_WORKERS digits) → IfNone workers ((n : ℕ) → IsNumberTo MOST_WORKERS digits n → ⊥) →
      MatchOption workers (result ≡ None) (λ n. result ≡ Some (record found { workers = Some n })) →
      AreOptions words found → AreFound (codes "--workers" ∷ digits ∷ words) result
  with_team digits found None result none some unsaid is are =
      subst (AreFound (codes "--workers" ∷ digits ∷ words)) (sym is)
      (λ options more. (let after = after_workers refl more in unsaid after.number after.of))
  with_team digits found (Some n) result none some unsaid is are =
      subst (AreFound (codes "--workers" ∷ digits ∷ words)) (sym is)
      (workers_first (codes "--workers") digits words found n refl some none are)

-- the texts of words that begin with one text or with two
pub empty_texts : (words : List (String Global)) → length words < 1 → AreOptions (texts_of words) no_options
empty_texts [] none = no_words
empty_texts (word ∷ words) none = absurd (omega (arith, none))

pub rest_texts : (words : List (String Global)) (a : String Global) (text : List ℕ) → 1 ≤ length words → a ≡ get_or words 0 a → string_bytes a ≡ text →
    texts_of words ≡ text ∷ texts_of (take (length words - 1) (drop 1 words))
rest_texts [] a text some is same = absurd (omega (arith, some))
rest_texts (x ∷ xs) a text some is same =
    let first : string_bytes x ≡ text = ap string_bytes (sym is) ∙ same in
    let rest : take (length (x ∷ xs) - 1) (drop 1 (x ∷ xs)) ≡ xs = take_rest (x ∷ xs) 1 in
    ap (λ (word : List ℕ). word ∷ map string_bytes xs) first ∙ ap (λ (ws : List (String Global)). text ∷ map string_bytes ws) (sym rest)

pub two_rest_texts : (words : List (String Global)) (a b : String Global) (text digits : List ℕ) → 2 ≤ length words → a ≡ get_or words 0 a →
    b ≡ get_or words 1 b → string_bytes a ≡ text → string_bytes b ≡ digits →
    texts_of words ≡ text ∷ digits ∷ texts_of (take (length words - 2) (drop 2 words))
two_rest_texts [] a b text digits some is too same equal = absurd (omega (arith, some))
two_rest_texts (x ∷ []) a b text digits some is too same equal = absurd (omega (arith, some))
two_rest_texts (x ∷ y ∷ xs) a b text digits some is too same equal =
    let first : string_bytes x ≡ text = ap string_bytes (sym is) ∙ same in
    let second : string_bytes y ≡ digits = ap string_bytes (sym too) ∙ equal in
    let rest : take (length (x ∷ y ∷ xs) - 2) (drop 2 (x ∷ y ∷ xs)) ≡ xs = take_rest (x ∷ y ∷ xs) 2 in
    ap (λ (word : List ℕ). word ∷ string_bytes y ∷ map string_bytes xs) first
    ∙ ap (λ (word : List ℕ). text ∷ word ∷ map string_bytes xs) second
    ∙ ap (λ (ws : List (String Global)). text ∷ digits ∷ map string_bytes ws) (sym rest)

-- words that are no options
pub lone_word : (words : List (String Global)) (a : String Global) → 1 ≤ length words → length words < 2 → a ≡ get_or words 0 a →
    (string_bytes a ≡ codes "--plain" → ⊥) → AreFound (texts_of words) None
lone_word [] a some few is no_plain = absurd (omega (arith, some))
lone_word (x ∷ []) a some few is no_plain = λ options are. lone_name (λ same. no_plain (ap string_bytes is ∙ same)) are
lone_word (x ∷ y ∷ xs) a some few is no_plain = absurd (omega (arith, few))

pub no_option : (words : List (String Global)) (a : String Global) → 1 ≤ length words → a ≡ get_or words 0 a →
    (string_bytes a ≡ codes "--plain" → ⊥) → (string_bytes a ≡ codes "--pitch" → ⊥) → (string_bytes a ≡ codes "--workers" → ⊥) →
    AreFound (texts_of words) None
no_option [] a some is no_plain no_pitch no_workers = absurd (omega (arith, some))
no_option (x ∷ xs) a some is no_plain no_pitch no_workers = λ options are.
    no_name (λ same. no_plain (ap string_bytes is ∙ same)) (λ same. no_pitch (ap string_bytes is ∙ same))
    (λ same. no_workers (ap string_bytes is ∙ same)) are

-- more words than options can be
pub too_many : (words : List (String Global)) → 5 < length words → AreFound (texts_of words) None
too_many words many options are =
    let few = few_options (texts_of words) options are in
    let is = length-map words string_bytes in
    omega (arith, many, few, is)

-- digits and their number
module _ {E : Type 0} (greatest : ℕ) (few : greatest < 2 ^ 32) (digits : List ℕ) (r : Result ℕ E) (parses : ParsesUnsigned 32 10 digits r) where
  not_parsed : (number : ℕ) → IsNumberTo greatest digits number → r ≡ Ok number
  not_parsed number is =
      let most = is.most in
      parse-decimal 32 number digits r (omega (arith, most, few)) (omega (arith, most, few)) is.digits parses

  same_number : (found : ℕ) → r ≡ Ok found → (number : ℕ) → IsNumberTo greatest digits number → found ≡ number
  same_number found is number of = let both = sym is ∙ not_parsed number of in cc

  pub not_written : (found : ℕ) (test : Bool) → r ≡ Ok found → test ≡ false → IsTrue test ↔ (digits ≡ decimal found) →
      (number : ℕ) → IsNumberTo greatest digits number → ⊥
  not_written found test is fails means number of =
      both_ways test fails (means.1 (of.digits ∙ ap decimal (sym (same_number found is number of))))

  pub not_among : (found : ℕ) (test : Bool) → r ≡ Ok found → test ≡ false → IsTrue test ↔ ((1 ≤ found) × (found ≤ greatest)) →
      (number : ℕ) → IsNumberTo greatest digits number → ⊥
  not_among found test is fails means number of =
      both_ways test fails (means.1 (subst (λ (n : ℕ). (1 ≤ n) × (n ≤ greatest)) (sym (same_number found is number of)) (of.some, of.most)))

  pub no_numeral : (error : E) → r ≡ Err error → (number : ℕ) → IsNumberTo greatest digits number → ⊥
  no_numeral error is number of = let both = sym is ∙ not_parsed number of in cc
