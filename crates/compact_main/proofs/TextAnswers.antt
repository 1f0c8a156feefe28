-- A text holds one drawing or has one first fault: of the text, of its tree, or of the shape that is
-- read from it.
use Rattle.std.proofs.Common.{ℕ, List, inl, inr, refl, subst, arith}
use Rattle.compact_types.specs.declared.plan.Shape.{Shape as AnyShape}
use Rattle.compact_types.specs.Refusals.{HasOneAnswer}
use Rattle.compact_types.specs.Stages.{IsMadeOf, IsFaultOf}
use Rattle.compact_types.proofs.Laws.{one_answer_alike, one_answer_in_two_stages}
use Rattle.gml_text.specs.declared.tree.Tree.{Tree}
use Rattle.gml_text.specs.Texts.{Spells}
use Rattle.gml_text.specs.Faults as no_tree
use Rattle.gml_text.proofs.Laws as texts
use Rattle.drawing_read.specs.declared.reading.Reading.{Reading}
use Rattle.drawing_read.specs.Faults.{FirstDrawFault}
use Rattle.drawing_read.specs.Readings.{IsReading, IsWithinLimits}
use Rattle.drawing_read.proofs.Laws as readings
use Rattle.drawing_check.specs.declared.fault.ShapeFault.{ShapeFault}
use Rattle.drawing_check.specs.Conditions.{CanCheck}
use Rattle.drawing_check.specs.Faults.{FirstShapeFault}
use Rattle.drawing_check.specs.Shapes.{IsShapeOf}
use Rattle.drawing_check.proofs.Laws as shapes
use Rattle.compact_main.specs.declared.drawing.Drawing.{Drawing}
use Rattle.compact_main.specs.declared.status.Why.{Why}
use Rattle.compact_main.specs.declared.status.Why.TheVariants.{TooLong, Gml, Draw, Shape}
use Rattle.compact_main.specs.Drawings.{HoldsDrawing, FirstTextFault}

-- a reading can be checked
pub can_check : (reading : Reading) → IsWithinLimits reading → CanCheck reading.plan reading.places
can_check reading is = record {
  places_fit = is.places_fit;
  some_vertex = is.some_vertex;
  few_pieces = let few = is.few_pieces in omega arith;
  within_reach = is.within_reach;
}

-- a reading of the tree, and its shape
abbrev Part : Type 0
Part = Reading × AnyShape

abbrev HasShape : Reading → AnyShape → Type 0
HasShape reading shape = IsShapeOf reading.plan reading.places shape

abbrev HasShapeFault : Reading → ShapeFault → Type 0
HasShapeFault reading fault = FirstShapeFault reading.plan reading.places fault

abbrev IsPart : Tree → Part → Type 0
IsPart tree part = IsReading tree part.0 × HasShape part.0 part.1

-- the fault of a tree that holds no drawing
abbrev TreeFault : Tree → Why → Type 0
TreeFault tree TooLong = ⊥
TreeFault tree (Gml fault) = ⊥
TreeFault tree (Draw fault) = FirstDrawFault tree fault
TreeFault tree (Shape fault) = (reading : Reading) × IsReading tree reading × HasShapeFault reading fault

-- the two stages of a tree
module _ (tree : Tree) where
  abbrev part_of : Reading → AnyShape → Part
  part_of reading shape = (reading, shape)

  abbrev TreeStages : Part → Type 0
  TreeStages = IsMadeOf (IsReading tree) HasShape part_of

  abbrev TreeFaults : Why → Type 0
  TreeFaults = IsFaultOf (IsReading tree) (FirstDrawFault tree) HasShapeFault (λ fault. Draw fault) (λ fault. Shape fault)

  tree_fault : (why : Why) → TreeFaults why → TreeFault tree why
  tree_fault why (inl of) = subst (TreeFault tree) of.is of.has_cause
  tree_fault why (inr of) = subst (TreeFault tree) of.is (of.first, of.has_first, of.has_cause)

  tree_fault_back : (why : Why) → TreeFault tree why → TreeFaults why
  tree_fault_back TooLong none = absurd none
  tree_fault_back (Gml fault) none = absurd none
  tree_fault_back (Draw fault) first = inl (record { cause = fault; has_cause = first; is = refl })
  tree_fault_back (Shape fault) (reading, read, first) =
      inr (record { first = reading; cause = fault; has_first = read; has_cause = first; is = refl })

  tree_answer : HasOneAnswer (IsPart tree) (TreeFault tree)
  tree_answer = one_answer_alike {P = TreeStages} {R = IsPart tree} {Q = TreeFaults} {S = TreeFault tree}
      (one_answer_in_two_stages part_of (λ fault. Draw fault) (λ fault. Shape fault) (readings.one_answer tree)
      (λ reading read. shapes.one_answer reading.plan reading.places (can_check reading (readings.reading_within_limits tree reading read))))
      (λ part of. subst (IsPart tree) of.is (of.has_first, of.has_second))
      (λ part is. record { first = part.0; second = part.1; has_first = is.0; has_second = is.1; is = refl })
      tree_fault tree_fault_back

-- the two stages of a text
module _ (text : List ℕ) where
  abbrev drawing_of : Tree → Part → Drawing
  drawing_of tree part = record { tree = tree; reading = part.0; bars = part.1 }

  abbrev TextStages : Drawing → Type 0
  TextStages = IsMadeOf (Spells text) IsPart drawing_of

  abbrev TextFaults : Why → Type 0
  TextFaults = IsFaultOf (Spells text) (no_tree.FirstFault text) TreeFault (λ fault. Gml fault) (λ why. why)

  fault_in_tree : (tree : Tree) (why : Why) → Spells text tree → TreeFault tree why → FirstTextFault text why
  fault_in_tree tree TooLong spelled none = none
  fault_in_tree tree (Gml fault) spelled none = absurd none
  fault_in_tree tree (Draw fault) spelled first = (tree, spelled, first)
  fault_in_tree tree (Shape fault) spelled (reading, read, first) = (tree, reading, spelled, read, first)

  text_fault : (why : Why) → TextFaults why → FirstTextFault text why
  text_fault why (inl of) = subst (FirstTextFault text) of.is of.has_cause
  text_fault why (inr of) = subst (FirstTextFault text) of.is (fault_in_tree of.first of.cause of.has_first of.has_cause)

  text_fault_back : (why : Why) → FirstTextFault text why → TextFaults why
  text_fault_back TooLong none = absurd none
  text_fault_back (Gml fault) first = inl (record { cause = fault; has_cause = first; is = refl })
  text_fault_back (Draw fault) (tree, spelled, first) =
      inr (record { first = tree; cause = Draw fault; has_first = spelled; has_cause = first; is = refl })
  text_fault_back (Shape fault) (tree, reading, spelled, read, first) =
      inr (record { first = tree; cause = Shape fault; has_first = spelled; has_cause = (reading, read, first); is = refl })

  pub text_answer : HasOneAnswer (HoldsDrawing text) (FirstTextFault text)
  text_answer = one_answer_alike {P = TextStages} {R = HoldsDrawing text} {Q = TextFaults} {S = FirstTextFault text}
      (one_answer_in_two_stages drawing_of (λ fault. Gml fault) (λ why. why) (texts.one_answer text) (λ tree spelled. tree_answer tree))
      (λ drawing of. subst (HoldsDrawing text) of.is (record { spelled = of.has_first; read = of.has_second.0; checked = of.has_second.1 }))
      (λ drawing is. record { first = drawing.tree; second = (drawing.reading, drawing.bars); has_first = is.spelled; has_second = (is.read, is.checked); is = refl })
      text_fault text_fault_back
