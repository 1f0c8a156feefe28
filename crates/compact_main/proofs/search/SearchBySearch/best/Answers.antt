use Rattle.compact_main.proofs.search.SearchBySearch.best.Goals as goal

pub returns-clause-best : goal.returns-clause-best
returns-clause-best g c =
    ((c.requires.ready c.args.alloc c.args.bars c.args.places c.requires.drawing c.requires.near).1 c.find.result c.find.ensures).0

pub returns-clause-worth : goal.returns-clause-worth
returns-clause-worth g c =
    ((c.requires.ready c.args.alloc c.args.bars c.args.places c.requires.drawing c.requires.near).1 c.find.result c.find.ensures).1

pub returns-clause-board : goal.returns-clause-board
returns-clause-board g c =
    ((c.requires.ready c.args.alloc c.args.bars c.args.places c.requires.drawing c.requires.near).1 c.find.result c.find.ensures).2
