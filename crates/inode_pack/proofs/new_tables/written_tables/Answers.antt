use Rattle.std.proofs.Common.{◌≡◌, ◌∙◌, ◌≤◌, ◌<◌, ⊎_elim, false, ℕ, Bool, set, refl, sym, ap, arith, length-set}
use Rattle.std.specs.Prelude.{not, nat_lt, slice_index_or}
use Rattle.std.proofs.lemmas.Bool.{cases_lt, ne_eqb}
use Rattle.std.proofs.lemmas.List.{get_or-set_same, get_or-set_other}
use Rattle.file_content.specs.Pages.{pages_of, pages_under}
use Rattle.inode_pack.specs.Committing.{is_table_over, pages_before}
use Rattle.inode_pack.proofs.WrittenTables.{over_more, over_changed, over_none}
use Rattle.inode_pack.proofs.new_tables.written_tables.Goals as goal
use Rattle.inode_pack.proofs.new_tables.written_tables.Goals.{then-under-gt0+then-pages_under-under, then-under-gt0+else-pages_under-under, else-under-gt0}

pub loop-k-preserved : goal.loop-k-preserved
loop-k-preserved g c =
    let w = (g.C.NewContent.working c.args.content.now) in
    let old = c.args.old.now in
    let k = c.loop-k.k in
    let value = c.if-under-gt0.written in
    let under = c.pages_under-under.ensures ∙ ap (λ (n : ℕ). pages_under k n) (c.page_count-now.ensures.pages ∙ ap pages_of c.size.ensures.value) in
    let here : value ≡ is_table_over old w k = elim c.if-under-gt0.branch [
      | then-under-gt0+then-pages_under-under x ↦ (
          let over = over_more old w k x.pages_under.result c.pages_under-under.result (x.pages_under.ensures ∙ ap (λ (n : ℕ). pages_under k n) c.pages_named-before.ensures.before) under x.if-under-gt0.true x.if-pages_under-under.true in
          let differ = ap (λ (b : Bool). not b) (ne_eqb x.pages_under.result c.pages_under-under.result x.if-pages_under-under.true) in
          cc (x.written-is, over, differ)
          )
      | then-under-gt0+else-pages_under-under x ↦ x.written-is ∙ x.changes_under.ensures ∙ sym (over_changed old w k x.pages_under.result c.pages_under-under.result (x.pages_under.ensures ∙ ap (λ (n : ℕ). pages_under k n) c.pages_named-before.ensures.before) under x.if-under-gt0.true x.if-pages_under-under.false)
      | else-under-gt0 x ↦ (
          let over = over_none old w k (pages_under k (pages_before old)) c.pages_under-under.result refl under x.if-under-gt0.false in
          let nothing : c.pages_under-under.result ≡ 0 = omega (arith, x.if-under-gt0.false) in
          let none = ap (λ (n : ℕ). nat_lt 0 n) nothing in
          cc (x.written-is, over, none)
          )
    ] in
    let count = c.loop-k.invariant.long in
    record {
      long = length-set c.loop-k.written c.from.result value ∙ count;
      marked = λ j high. ⊎_elim
          (λ (less : j < k). get_or-set_other c.loop-k.written c.from.result j value false (λ e. omega arith) ∙ c.loop-k.invariant.marked j less)
          (λ (ge : k ≤ j).
          let at : c.from.result ≡ j = omega arith in
          let same : k ≡ j = omega arith in
          ap (λ (n : ℕ). slice_index_or (set c.loop-k.written n value) j false) at ∙ get_or-set_same c.loop-k.written j value false (omega arith) ∙ here ∙ ap (λ (n : ℕ). is_table_over old w n) same)
          (cases_lt j k);
    }

pub returns : goal.returns
returns g c k lt = c.loop-k.invariant.marked k (omega arith)
