use Rattle.std.proofs.Common.{◌≡◌, ◌∙◌, ◌+◌, ◌-◌, ◌*◌, sym, ap, arith, ℕ}
use Rattle.locus_ids.specs.Sizes.{site_inodes}
use Rattle.site_packs.specs.Packs.{PacksState, free_ino}
use Rattle.site_packs.proofs.FreeNumbers.{next_free, this_free}
use Rattle.site_packs.proofs.packs.SitePacks.least_free.Goals as goal

pub returns-then-not-is_taken : goal.returns-then-not-is_taken
returns-then-not-is_taken c =
    let site : c.from.result ≡ c.args.self.now.site = c.from.ensures ∙ c.get.ensures.value ∙ ap (λ (p : PacksState). p.site) c.self.view_is in
    let left = site_inodes * (c.from.result - 1) + 1 + site_inodes - c.loop-ino.ino in
    sym (ap (λ (n : ℕ). free_ino c.args.self.now.packs c.args.group c.args.making.now (site_inodes * (n - 1) + 1) site_inodes) (sym site)
    ∙ sym c.loop-ino.invariant
    ∙ this_free c.args.self.now.packs c.args.group c.args.making.now c.loop-ino.ino left (let lt = c.loop-ino-test.true in omega arith) (sym c.is_taken.ensures ∙ c.if-not-is_taken.true))

pub loop-ino-preserved : goal.loop-ino-preserved
loop-ino-preserved c =
    let left = site_inodes * (c.from.result - 1) + 1 + site_inodes - c.loop-ino.ino in
    let e : site_inodes * (c.from.result - 1) + 1 + site_inodes - (c.loop-ino.ino + 1) ≡ left - 1 = omega arith in
    ap (λ (n : ℕ). free_ino c.args.self.now.packs c.args.group c.args.making.now (c.loop-ino.ino + 1) n) e
    ∙ sym (next_free c.args.self.now.packs c.args.group c.args.making.now c.loop-ino.ino left (let lt = c.loop-ino-test.true in omega arith) (sym c.is_taken.ensures ∙ c.if-not-is_taken.false))
    ∙ c.loop-ino.invariant

pub returns : goal.returns
returns c =
    let site : c.from.result ≡ c.args.self.now.site = c.from.ensures ∙ c.get.ensures.value ∙ ap (λ (p : PacksState). p.site) c.self.view_is in
    let none : site_inodes * (c.from.result - 1) + 1 + site_inodes - c.loop-ino.ino ≡ 0 = (let le = c.loop-ino-test.false in omega arith) in
    sym (ap (λ (n : ℕ). free_ino c.args.self.now.packs c.args.group c.args.making.now (site_inodes * (n - 1) + 1) site_inodes) (sym site)
    ∙ sym c.loop-ino.invariant
    ∙ ap (λ (n : ℕ). free_ino c.args.self.now.packs c.args.group c.args.making.now c.loop-ino.ino n) none)
