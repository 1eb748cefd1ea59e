use Rattle.std.proofs.Common.{◌≡◌, ◌+◌, sym, refl, ◌∙◌, rules, arith}
use Rattle.keystream.proofs.Streams.{moved_none, keystream_none}
use Rattle.keystream.proofs.Sealing.{sealed_none}
use Rattle.keystream.proofs.Applying.{taken_below, taken_laid, apply_accepts, apply_seals, whole_bits, whole_twice}
use Rattle.keystream.proofs.span.apply.Goals as goal

pub loop-done-init : goal.loop-done-init
loop-done-init g c =
    let m = g.G.Generator.meaning c.args.generator.now in
    let s = g.G.Generator.meant c.args.generator.now in record {
      within = omega arith;
      same = refl;
      after = sym (moved_none s);
      kept = c.requires;
      buffer = rw (keystream_none m s, sealed_none);
    }

pub lay-requires-clause-word : goal.lay-requires-clause-word
lay-requires-clause-word g c =
    taken_below (g.G.Generator.meaning c.loop-done.generator) (g.G.Generator.meant c.loop-done.generator) _ _ c.in_ok-word.ensures.answer

pub loop-done-preserved : goal.loop-done-preserved
loop-done-preserved g c =
    let m = g.G.Generator.meaning c.args.generator.now in
    let s = g.G.Generator.meant c.args.generator.now in
    let done = c.loop-done.done in
    let inv = c.loop-done.invariant in
    let took = c.in_ok-word.ensures in record {
      within = omega arith;
      same = took.same ∙ inv.same;
      after = search rules;
      kept = took.kept;
      buffer =
          c.lay.ensures
          ∙ taken_laid m _ s _ c.args.buffer.now _ c.args.first done _ (done + 64) _ _ inv.same inv.after inv.buffer took.answer (omega arith) (omega arith) (omega arith);
    }

pub returns-else-n-left-clause-bits : goal.returns-else-n-left-clause-bits
returns-else-n-left-clause-bits g c =
    let m = g.G.Generator.meaning c.args.generator.now in
    let s = g.G.Generator.meant c.args.generator.now in
    let all : c.loop-done.done ≡ c.args.n = omega arith in
    λ _. whole_bits m s c.args.buffer.now _ c.args.first c.args.n (rw (← all) c.loop-done.invariant.buffer)

pub returns-else-n-left-clause-twice : goal.returns-else-n-left-clause-twice
returns-else-n-left-clause-twice g c =
    let m = g.G.Generator.meaning c.args.generator.now in
    let s = g.G.Generator.meant c.args.generator.now in
    let all : c.loop-done.done ≡ c.args.n = omega arith in
    whole_twice m s c.args.buffer.now _ c.args.first c.args.n (rw (← all) c.loop-done.invariant.buffer) (apply_accepts m s _ _ _ (omega arith) (omega arith))

pub returns-in_ok-word : goal.returns-in_ok-word
returns-in_ok-word g c =
    let m = g.G.Generator.meaning c.args.generator.now in
    let s = g.G.Generator.meant c.args.generator.now in
    let buffer = c.args.buffer.now in
    let first = c.args.first in
    let n = c.args.n in
    let inv = c.loop-done.invariant in
    let took = c.in_ok-word.ensures in
    let whole =
    c.lay.ensures
    ∙ taken_laid m _ s _ buffer _ first c.loop-done.done _ n _ _ inv.same inv.after inv.buffer took.answer (omega arith) (omega arith) (omega arith) in
    let answer = apply_accepts m s buffer first n (omega arith) (omega arith) in record {
      answer = sym answer;
      buffer = whole ∙ sym (apply_seals m s buffer first n answer);
      after = search rules;
      same = took.same ∙ inv.same;
      kept = took.kept;
      bits = λ _. whole_bits m s buffer _ first n whole;
      twice = whole_twice m s buffer _ first n whole answer;
    }
