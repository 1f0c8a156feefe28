-- What is made of the sample drawing.
use Rattle.std.proofs.Common.{◌≡◌, ℕ, ◌≤◌, List, Result, Ok, Err, arith}
use Rattle.std.specs.Prelude.{IfOk}
use Rattle.std.proofs.lemmas.Int.{ints}
use Rattle.compact_types.specs.declared.limits.TheConstants.{GREATEST_PLACE, GREATEST_THOUSANDTHS}
use Rattle.compact_types.specs.declared.places.Axis.TheVariants.{X, Y}
use Rattle.compact_types.specs.declared.places.Places.{Places}
use Rattle.compact_types.specs.declared.plan.Shape.{Shape}
use Rattle.compact_types.specs.Bests.{total_length, IsBest, worth_of}
use Rattle.compact_types.specs.Magnitudes.{AreWithin}
use Rattle.drawing_check.specs.Shapes.{IsShapeOf}
use Rattle.bars.specs.Solutions.{IsSound}
use Rattle.cert_text.specs.declared.tree.CertNode.{CertNode}
use Rattle.cert_text.specs.declared.trimming.TheConstants.{MOST_SPLITS}
use Rattle.cert_text.specs.Accepting.{Accepts}
use Rattle.cert_text.specs.Loads.{IsCertTree}
use Rattle.cert_text.specs.Trees.{IsShallow}
use Rattle.compact_main.specs.declared.sample.TheConstants.{MOST_SAMPLE}
use Rattle.compact_main.specs.Samples.{IsSample, sample_text, greatest_along, IsSampleOutput}
use Rattle.compact_main.specs.inner.CertificateChecks.{CanCheckCertificate, CanMeasure}
use Rattle.compact_main.proofs.BestDrawings.{best_within}
use Rattle.cert_text.proofs.Laws.{made_best}
use Rattle.compact_main.proofs.ShownBest.{shallow_enough}
use Rattle.compact_main.proofs.SampleLaws.{sound_sample}

near_in_steps : (places : Places) → AreWithin GREATEST_PLACE places → AreWithin GREATEST_THOUSANDTHS places
near_in_steps places within axis v inside =
    let low = (within axis v inside).low in
    let high = (within axis v inside).high in
    record { low = omega (arith, ints, low); high = omega (arith, ints, high) }

module _ (number : ℕ) (shape : Shape) (places best : Places) (some : 1 ≤ number) (most : number ≤ MOST_SAMPLE)
    (sample : IsSample number shape.plan places) (is : IsShapeOf shape.plan places shape) where
  sound : IsSound shape
  sound = sound_sample number shape places some most sample is

  -- a certificate that shows it by itself: accepted, and shallow
  pub sample_shown : (nodes : List CertNode) → Accepts shape best nodes → IsShallow MOST_SPLITS nodes → IsBest total_length shape best
  sample_shown nodes accepted shallow = made_best shape best nodes sound shallow accepted

  module _ (first : IsBest total_length shape best) where
    near : AreWithin GREATEST_THOUSANDTHS best
    near = near_in_steps best (best_within shape sound best first)

    -- its certificate can be checked
    pub sample_checked : (nodes : List CertNode) → IsCertTree nodes → IsShallow MOST_SPLITS nodes → CanCheckCertificate shape best nodes
    sample_checked nodes tree shallow = record {
      drawing = first.drawing;
      near = near;
      whole = tree.whole;
      in_range = tree.in_range;
      shallow = shallow_enough nodes shallow;
    }

    -- its best drawing can be measured
    pub sample_measured : CanMeasure shape best
    sample_measured = record { fit = first.drawing.crossing_free.places_fit; near = near }

    -- and is what is told of
    pub sample_told : {E : Type 0} (nodes : List CertNode) (result : Result (List ℕ) E) → Accepts shape best nodes → IsShallow MOST_SPLITS nodes →
        IfOk result (λ text. text ≡ sample_text number shape.plan (worth_of total_length shape best) (greatest_along X best) (greatest_along Y best)) →
        IfOk result (IsSampleOutput number)
    sample_told nodes (Ok text) accepted shallow told = record {
      shape = shape;
      places = places;
      sample = sample;
      drawing = is;
      best_places = best;
      best = first;
      nodes = nodes;
      accepted = accepted;
      shallow = shallow;
      told = told;
    }
    sample_told nodes (Err refused) accepted shallow told = tt
