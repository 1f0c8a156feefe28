use Rattle.compact_main.proofs.SampleOutputs.{sample_shown}
use Rattle.compact_main.proofs.ShownBest.{shown_of_text}
use Rattle.compact_main.proofs.law.certificates_show_the_best.Goals as goal

pub returns-clause-drawn : goal.returns-clause-drawn
returns-clause-drawn c = shown_of_text

pub returns-clause-sampled : goal.returns-clause-sampled
returns-clause-sampled c = λ number shape places best nodes limits sample is. sample_shown number shape places best limits.0 limits.1 sample is nodes
