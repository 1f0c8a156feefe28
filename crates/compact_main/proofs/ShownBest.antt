-- A certificate shows by itself that places are the best: it is accepted, and it is shallow.
use Rattle.std.proofs.Common.{ℕ, List, [], ◌∷◌, Result, Ok, Err, arith}
use Rattle.std.specs.Prelude.{IfOk}
use Rattle.compact_types.specs.declared.limits.TheConstants.{MOST_CHOICES}
use Rattle.compact_types.specs.declared.places.Places.{Places}
use Rattle.compact_types.specs.declared.plan.Shape.{Shape}
use Rattle.compact_types.specs.declared.search.Flows.{Flows}
use Rattle.compact_types.specs.Bests.{total_length, IsBest}
use Rattle.shape_graphs.specs.Backings.{DoBack}
use Rattle.workers.specs.declared.alone.Best.{Best}
use Rattle.workers.specs.Searches.{HasEnded}
use Rattle.cert_text.specs.declared.tree.CertNode.{CertNode}
use Rattle.cert_text.specs.declared.trimming.TheConstants.{MOST_SPLITS}
use Rattle.cert_text.specs.Trees.{IsShallow}
use Rattle.cert_text.proofs.Laws.{made_best, shallower_from}
use Rattle.compact_main.specs.declared.drawing.Drawing.{Drawing}
use Rattle.compact_main.specs.declared.command.Form.TheVariants.{Certified}
use Rattle.compact_main.specs.Drawings.{shape_of, HoldsDrawing, AreBestPlaces, IsAccepted}
use Rattle.compact_main.specs.Outputs.{Draws, DrawsBest, IsCertified}
use Rattle.compact_main.specs.inner.FoundDrawings.{HasFoundBest}
use Rattle.compact_main.proofs.ReadShapes.{sound_shape}

-- what a search can make is not too deep for a check
pub shallow_enough : (nodes : List CertNode) → IsShallow MOST_SPLITS nodes → IsShallow MOST_CHOICES nodes
shallow_enough nodes shallow = shallower_from MOST_SPLITS MOST_CHOICES nodes (0 ∷ []) (omega arith) shallow

-- of a drawing that a text holds
pub shown_of_text : (text : List ℕ) (drawing : Drawing) (places : Places) (nodes : List CertNode) → HoldsDrawing text drawing →
    IsAccepted drawing places nodes → IsShallow MOST_SPLITS nodes → AreBestPlaces drawing places
shown_of_text text drawing places nodes holds accepted shallow =
    made_best (shape_of drawing) places nodes (sound_shape drawing.tree drawing.reading (shape_of drawing) holds.read holds.checked) shallow accepted

-- a front and the certificate after it are a drawing with its certificate
pub drawn_certified : {E : Type 0} (drawing : Drawing) (pitch : ℕ) (places : Places) (nodes : List CertNode) (front : List ℕ) (result : Result (List ℕ) E) →
    DrawsBest drawing pitch places front → IsAccepted drawing places nodes → IsShallow MOST_SPLITS nodes → IfOk result (IsCertified pitch front nodes) →
    IfOk result (Draws Certified drawing pitch)
drawn_certified drawing pitch places nodes front (Ok text) draws accepted shallow certified =
    (places, nodes, record { front = front; draws = draws; accepted = accepted; shallow = shallow; certified = certified })
drawn_certified drawing pitch places nodes front (Err refused) draws accepted shallow certified = tt

-- what a search has found
pub found : {E : Type 0} (shape : Shape) (result : Result (Best Flows) E) → IfOk result (λ best. IsBest total_length shape best.key.places) →
    IfOk result (λ best. HasEnded total_length DoBack shape best.key best.board) → IfOk result (HasFoundBest shape)
found shape (Ok best) first ended = record { best = first; ended = ended }
found shape (Err refused) first ended = tt
