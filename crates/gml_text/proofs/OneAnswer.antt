-- Every text has one answer, and the reader gives it.
use Rattle.std.proofs.Common.{ℕ, ◌≤◌, ◌⊎◌, inl, inr, List, length, Result, Ok, Err, IfOk, subst}
use Rattle.compact_types.specs.Refusals.{Gives, IfFault, Decides, HasOneAnswer}
use Rattle.compact_types.specs.declared.refusal.Refusal.{Refusal}
use Rattle.compact_types.specs.declared.refusal.Refusal.TheVariants.{Fault, NoMemory}
use Rattle.compact_types.proofs.Laws.{decides_by_one_answer}
use Rattle.gml_text.specs.declared.limits.TheConstants.{MOST_BYTES}
use Rattle.gml_text.specs.declared.fault.GmlFault.{GmlFault}
use Rattle.gml_text.specs.declared.tree.Tree.{Tree}
use Rattle.gml_text.specs.Faults.{FirstFault}
use Rattle.gml_text.specs.Texts.{Spells}
use Rattle.gml_text.specs.Grammar.{IsReadable}
use Rattle.gml_text.specs.inner.Reading.{answer_of}
use Rattle.gml_text.proofs.ReaderCompleteness.{answer_of-spelled}
use Rattle.gml_text.proofs.FirstFaults.{answer_of-fault}
use Rattle.gml_text.proofs.ReaderSoundness.{Answers, answer_of-right}
use Rattle.gml_text.proofs.ReadTreeLimits.{spelled_readable}

answered : (text : List ℕ) (answer : Result Tree GmlFault) → Answers text answer → ((tree : Tree) × Spells text tree) ⊎ ((fault : GmlFault) × FirstFault text fault)
answered text (Ok tree) h = inl (tree, h)
answered text (Err fault) h = inr (fault, h)

pub one_answer : (text : List ℕ) → HasOneAnswer (Spells text) (FirstFault text)
one_answer text = record {
  some = answered text (answer_of text) (answer_of-right text);
  one_value = λ a b h k. let e = answer_of-spelled text a h in let f = answer_of-spelled text b k in cc;
  one_fault = λ a b h k. let e = answer_of-fault h in let f = answer_of-fault k in cc;
  not_both = λ tree fault h k. let e = answer_of-spelled text tree h in let f = answer_of-fault k in cc;
}

-- the answer of the reader's function is right
given_tree : (text : List ℕ) (result : Result Tree (Refusal GmlFault)) → Gives result (answer_of text) → IfOk result (Spells text)
given_tree text (Ok tree) e = subst (Answers text) e (answer_of-right text)
given_tree text (Err refusal) e = tt

given_fault : (text : List ℕ) (result : Result Tree (Refusal GmlFault)) → Gives result (answer_of text) → IfFault result (FirstFault text)
given_fault text (Ok tree) e = tt
given_fault text (Err (Fault fault)) e = subst (Answers text) e (answer_of-right text)
given_fault text (Err NoMemory) e = tt

pub given_decides : (text : List ℕ) (result : Result Tree (Refusal GmlFault)) → Gives result (answer_of text) → Decides result (Spells text) (FirstFault text)
given_decides text result e = decides_by_one_answer result (given_tree text result e) (given_fault text result e) (one_answer text)

pub given_readable : (text : List ℕ) (result : Result Tree (Refusal GmlFault)) → length text ≤ MOST_BYTES → Gives result (answer_of text) → IfOk result (λ tree. IsReadable tree)
given_readable text (Ok tree) short e = spelled_readable text tree short (subst (Answers text) e (answer_of-right text))
given_readable text (Err refusal) short e = tt
