-- The reader's function, a step at a time.
use Rattle.std.proofs.Common.{◌≡◌, ℕ, zero, suc, ◌+◌, ◌-◌, ◌<◌, List, [], ◌∷◌, ◌++◌, length, drop, Err, refl, sym, ◌∙◌, ap, arith, length-drop}
use Rattle.std.proofs.lemmas.List.{drop_at, drop-drop}
use Rattle.compact_types.specs.Refusals.{Gives}
use Rattle.compact_types.specs.declared.refusal.Refusal.{Refusal}
use Rattle.compact_types.specs.declared.refusal.Refusal.TheVariants.{Fault, NoMemory}
use Rattle.gml_text.specs.declared.fault.GmlFault.{GmlFault}
use Rattle.gml_text.specs.declared.tree.Tree.{Tree}
use Rattle.gml_text.specs.inner.Reading.{ReaderState, ReaderStep, goes_on, stops, reader_step, run, after_step, IsReaderStep, answer_of}

-- bytes that are taken already are no more looked at
pub run-skip : (skip : ℕ) (s : ReaderState) (text : List ℕ) → run skip s text ≡ run 0 s (drop skip text)
run-skip zero s [] = refl
run-skip zero s (b ∷ text) = refl
run-skip (suc skip) s [] = refl
run-skip (suc skip) s (b ∷ text) = run-skip skip s text

run-by_step : (s : ReaderState) (b : ℕ) (rest : List ℕ) (step : ReaderStep) → reader_step s (b ∷ rest) ≡ step →
    run 0 s (b ∷ rest) ≡ after_step step (λ next. run (next.at - suc s.at) next rest)
run-by_step s b rest step e = ap (λ (step : ReaderStep). after_step step (λ next. run (next.at - suc s.at) next rest)) e

-- a step over a part of the text
pub run-goes_on : (s next : ReaderState) (text rest : List ℕ) → 0 < length text →
    reader_step s (text ++ rest) ≡ goes_on next → next.at ≡ s.at + length text → run 0 s (text ++ rest) ≡ run 0 next rest
run-goes_on s next [] rest some e place = absurd (omega arith)
run-goes_on s next (b ∷ text) rest some e place =
    let skip : next.at - suc s.at ≡ length text = omega arith in
    run-by_step s b (text ++ rest) (goes_on next) e
    ∙ (ap (λ n. run n next (text ++ rest)) skip
    ∙ (run-skip (length text) next (text ++ rest)
    ∙ ap (run 0 next) (drop_at text rest (length text) refl)))

-- a step that ends the run
pub run-stops : (s : ReaderState) (text : List ℕ) (fault : GmlFault) → 0 < length text → reader_step s text ≡ stops fault → run 0 s text ≡ Err fault
run-stops s [] fault some e = absurd (omega arith)
run-stops s (b ∷ text) fault some e = run-by_step s b text (stops fault) e

step-drop : (s next : ReaderState) (text : List ℕ) → 0 < length text → reader_step s text ≡ goes_on next → s.at < next.at →
    run 0 s text ≡ run 0 next (drop (next.at - s.at) text)
step-drop s next [] some e forward = absurd (omega arith)
step-drop s next (b ∷ text) some e forward =
    let one : suc (next.at - suc s.at) ≡ next.at - s.at = omega arith in
    run-by_step s b text (goes_on next) e
    ∙ (run-skip (next.at - suc s.at) next text
    ∙ ap (λ n. run 0 next (drop n (b ∷ text))) one)

-- a step of the reader within a whole text
pub run-step : (bytes : List ℕ) (s next : ReaderState) → s.at < length bytes → reader_step s (drop s.at bytes) ≡ goes_on next →
    s.at < next.at → run 0 s (drop s.at bytes) ≡ run 0 next (drop next.at bytes)
run-step bytes s next some e forward =
    let room : 0 < length (drop s.at bytes) = simp length-drop (omega arith) in
    let there : s.at + (next.at - s.at) ≡ next.at = omega arith in
    step-drop s next (drop s.at bytes) room e forward
    ∙ (ap (run 0 next) (drop-drop (next.at - s.at) s.at bytes)
    ∙ ap (λ n. run 0 next (drop n bytes)) there)

-- what the caller answers where a step refused
pub Gives-refusal : (bytes : List ℕ) (s : ReaderState) (refusal : Refusal GmlFault) → s.at < length bytes →
    IsReaderStep (Err refusal) (reader_step s (drop s.at bytes)) → run 0 s (drop s.at bytes) ≡ answer_of bytes →
    Gives {T = Tree} (Err refusal) (answer_of bytes)
Gives-refusal bytes s (Fault fault) some e here =
    let room : 0 < length (drop s.at bytes) = simp length-drop (omega arith) in
    sym here ∙ run-stops s (drop s.at bytes) fault room e
Gives-refusal bytes s NoMemory some e here = tt
