use Rattle.std.proofs.Common.{◌∙◌}
use Rattle.keystream.proofs.Holding.{held_front, held_rest}
use Rattle.keystream.proofs.ahead.ReadAhead.held.Goals as goal

pub returns-clause-answer : goal.returns-clause-answer
returns-clause-answer g c =
    let m = g.G.Generator.meaning c.args.self.now.below in
    c.next.ensures.answer ∙ held_front m _ _ c.requires.sound.0 c.args.n c.requires.held

pub returns-clause-kept : goal.returns-clause-kept
returns-clause-kept g c =
    let m = g.G.Generator.meaning c.args.self.now.below in
    (held_rest m _ _ c.requires.sound.0 c.args.n c.requires.held c.next.new.self c.next.ensures.word c.next.ensures.count, c.requires.sound.1)
