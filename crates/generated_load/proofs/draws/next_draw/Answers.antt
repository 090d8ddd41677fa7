use Rattle.std.proofs.Common.{◌%◌, ◌∙◌, ℕ, ap}
use Rattle.the_run.specs.Commands.{Drawn}
use Rattle.generated_load.proofs.Words.{is_after, is_drawn}
use Rattle.generated_load.proofs.draws.next_draw.Goals as goal

with_site : ℕ → ℕ → ℕ → Drawn
with_site a n site = record { what = a % 16; site = site; name = n % 8 }

pub returns-clause-drawn : goal.returns-clause-drawn
unfolding with_site
returns-clause-drawn c =
    let a = c.next_word-kind in
    let s = c.next_word-site in
    let n = c.next_word-name in
    ap (with_site a.result n.result) c.site_of.ensures
    ∙ is_drawn c.args.generator.now a.new.self s.new.self n.new.self a.result s.result n.result a.ensures s.ensures n.ensures

pub returns-clause-after : goal.returns-clause-after
returns-clause-after c =
    let a = c.next_word-kind in
    let s = c.next_word-site in
    let n = c.next_word-name in
    is_after c.args.generator.now a.new.self s.new.self n.new.self a.result s.result n.result a.ensures s.ensures n.ensures
