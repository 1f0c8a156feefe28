use Rattle.board.proofs.tests.is_shared_by_two_callers.Goals as goal

pub settle-requires-clause-vertices : goal.settle-requires-clause-vertices
settle-requires-clause-vertices g c =
    rw (c.claim-4.ensures.shape, c.claim-3.ensures.shape, c.claim-2.ensures.shape, c.claim.ensures.shape) c.in_ok-board.ensures.vertices

pub settle-requires-clause-pieces : goal.settle-requires-clause-pieces
settle-requires-clause-pieces g c =
    rw (c.claim-4.ensures.shape, c.claim-3.ensures.shape, c.claim-2.ensures.shape, c.claim.ensures.shape) c.in_ok-board.ensures.pieces

pub settle-requires-2-clause-vertices : goal.settle-requires-2-clause-vertices
settle-requires-2-clause-vertices g c =
    rw (c.settle.ensures.shape, c.claim-4.ensures.shape, c.claim-3.ensures.shape, c.claim-2.ensures.shape, c.claim.ensures.shape)
    c.in_ok-board.ensures.vertices

pub settle-requires-2-clause-pieces : goal.settle-requires-2-clause-pieces
settle-requires-2-clause-pieces g c =
    rw (c.settle.ensures.shape, c.claim-4.ensures.shape, c.claim-3.ensures.shape, c.claim-2.ensures.shape, c.claim.ensures.shape)
    c.in_ok-board.ensures.pieces
