use Rattle.std.proofs.Common.{◌≡◌, ◌≤◌}
use Rattle.keystream.specs.Meaning.{keystream, moved}
use Rattle.keystream.specs.Span.{sealed}
use Rattle.keystream.proofs.span.apply.Given as goal

-- the first `done` bits are laid, and the generator has moved on by as many
abbrev pub invariant-loop-done : goal.invariant-loop-done
invariant-loop-done g l =
    let m = g.G.Generator.meaning l.initial.generator in
    let s = g.G.Generator.meant l.initial.generator in record {
      within : l.done ≤ l.n;
      same : g.G.Generator.meaning l.generator ≡ m;
      after : g.G.Generator.meant l.generator ≡ moved s l.done;
      kept : g.G.Generator.sound l.generator;
      buffer : l.buffer ≡ sealed l.initial.buffer l.first (keystream m s l.done);
    }
