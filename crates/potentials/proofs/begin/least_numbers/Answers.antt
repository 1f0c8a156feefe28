use Rattle.potentials.proofs.begin.least_numbers.Goals as goal

pub unreachable-requires : goal.unreachable-requires
unreachable-requires c =
    let none = rw c.in-None.is at c.in_ok-numbers.ensures.numbers in
    none c.requires.tight.0 c.requires.tight.1
