-- Lines of a text.
use Rattle.std.proofs.Common.{◌≡◌, ⊎_elim, ℕ, zero, suc, ◌+◌, ◌-◌, ◌<◌, Bool, true, false, List, []}
use Rattle.std.proofs.Common.{◌∷◌, ◌++◌, length, take, drop, refl, sym, ap, ◌∙◌, arith}
use Rattle.std.specs.Prelude.{IsTrue, ◌↔◌}
use Rattle.std.specs.List.{list_all, prefix_len}
use Rattle.std.proofs.lemmas.Bool.{and_parts}
use Rattle.std.proofs.lemmas.Bool.Decides.{nat_tests}
use Rattle.std.proofs.lemmas.List.{take_rest}
use Rattle.cert_text.specs.inner.Lines.{IsFirstLine, is_no_feed}
use Rattle.cert_text.proofs.ReadWords.{cond_cases}

-- a text without a line feed
pub no_line : (text : List ℕ) → length text ≡ prefix_len is_no_feed text →
    list_all is_no_feed text ≡ true
no_line [] h = refl
no_line (b ∷ text) h = ⊎_elim
    (λ yes. let e : 1 + prefix_len is_no_feed text ≡ suc (length text) = yes.1 in
    rw (yes.0) (no_line text (omega arith)))
    (λ no. absurd (let e : 0 ≡ suc (length text) = no.1 in omega arith))
    (cond_cases (is_no_feed b) (1 + prefix_len is_no_feed text) 0 (suc (length text)) (sym h))

pub first_line : (text : List ℕ) (n : ℕ) → prefix_len is_no_feed text ≡ n → n < length text →
    IsFirstLine text (take n text) (drop (suc n) text)
first_line [] n h within = absurd (omega arith)
first_line (b ∷ text) zero h within = ⊎_elim
    (λ yes. absurd (let e : 1 + prefix_len is_no_feed text ≡ 0 = yes.1 in omega arith))
    (λ no. let feed : b ≡ 10 = grind (arith, nat_tests, no.0) in
    record { cut = ap (λ c. c ∷ text) feed; no_feed = refl })
    (cond_cases (is_no_feed b) (1 + prefix_len is_no_feed text) 0 0 h)
first_line (b ∷ text) (suc n) h within = ⊎_elim
    (λ yes. let e : 1 + prefix_len is_no_feed text ≡ suc n = yes.1 in
    let more = first_line text n (omega arith) (omega arith) in
    record { cut = ap (λ after. b ∷ after) (more.cut); no_feed = rw (yes.0) (more.no_feed) })
    (λ no. absurd (let e : 0 ≡ suc n = no.1 in omega arith))
    (cond_cases (is_no_feed b) (1 + prefix_len is_no_feed text) 0 (suc n) h)

pub line_found : (text : List ℕ) (n : ℕ) → n ≡ prefix_len is_no_feed text → n < length text →
    IsFirstLine text (take n text) (take (length text - (n + 1)) (drop (n + 1) text))
line_found text n h within =
    let next : n + 1 ≡ suc n = omega arith in
    rw (take_rest text (n + 1), next) (first_line text n (sym h) within)

-- a text has one first line
pub same_line : (a b rest after : List ℕ) → list_all is_no_feed a ≡ true →
    list_all is_no_feed b ≡ true →
    a ++ 10 ∷ rest ≡ b ++ 10 ∷ after → (a ≡ b) × (rest ≡ after)
same_line [] [] rest after p q e = (refl, cc)
same_line [] (c ∷ b) rest after p q e =
    let head : 10 ≡ c = cc in let no = (and_parts (is_no_feed c) (list_all is_no_feed b) q).0 in
    absurd (grind (arith, nat_tests))
same_line (c ∷ a) [] rest after p q e =
    let head : c ≡ 10 = cc in let no = (and_parts (is_no_feed c) (list_all is_no_feed a) p).0 in
    absurd (grind (arith, nat_tests))
same_line (c ∷ a) (d ∷ b) rest after p q e =
    let head : c ≡ d = cc in let tail : a ++ 10 ∷ rest ≡ b ++ 10 ∷ after = cc in
    let more = same_line a b rest after ((and_parts (is_no_feed c) (list_all is_no_feed a) p).1)
    ((and_parts (is_no_feed d) (list_all is_no_feed b) q).1) tail in
    (rw (head, more.0) refl, more.1)

-- a text without a line feed has no line
pub no_first_line : (text line rest : List ℕ) → list_all is_no_feed text ≡ true →
    text ≡ line ++ 10 ∷ rest → ⊥
no_first_line [] [] rest p e = absurd (let f : [] ≡ 10 ∷ rest = e in cc)
no_first_line [] (c ∷ line) rest p e = absurd (let f : [] ≡ c ∷ (line ++ 10 ∷ rest) = e in cc)
no_first_line (b ∷ text) [] rest p e =
    let head : b ≡ 10 = cc in let no = (and_parts (is_no_feed b) (list_all is_no_feed text) p).0 in
    absurd (grind (arith, nat_tests))
no_first_line (b ∷ text) (c ∷ line) rest p e =
    let tail : text ≡ line ++ 10 ∷ rest = cc in
    no_first_line text line rest ((and_parts (is_no_feed b) (list_all is_no_feed text) p).1) tail

-- the text has not come to its end
pub not_at_end : (rest : List ℕ) (end : Bool) → IsTrue end ↔ (rest ≡ []) → end ≡ false → rest ≡ [] →
    ⊥
not_at_end rest end is further none = absurd (let e : false ≡ true = sym further ∙ is.1 none in cc)
