use Rattle.std.proofs.Common.{◌≡◌, ◌+◌, ◌*◌, ◌-◌, ◌<◌, ◌≤◌, ℕ, List, length, get_or, sym, ◌∙◌, ap, arith, subst, ⊎_elim}
use Rattle.std.specs.Prelude.{Ok}
use Rattle.std.proofs.lemmas.Bool.{cases_lt}
use Rattle.locus_ids.specs.Sizes.{slot_pages, table_pages, content_tables_max}
use Rattle.disk_model.specs.Images.{bytes_at}
use Rattle.disk_model.proofs.ReadRuns.{reads_join, goes_same}
use Rattle.pack_layout.specs.Layout.{table_at, table_bytes, numbers_under}
use Rattle.pack_slots.proofs.TableNumbers.{drop_further, with_table, long_with, first_with, under_before, under_here, rest_with}
use Rattle.pack_slots.proofs.tables.read_numbers.Goals as goal

pub returns-in_err-read-clause-rest : goal.returns-in_err-read-clause-rest
returns-in_err-read-clause-rest g c =
    let k = c.loop-k.k in
    drop_further (slot_pages + table_pages * k) (slot_pages + table_pages * length c.args.tables.now) c.loop-k.numbers c.args.numbers.now (omega (arith, c.loop-k-test.true)) c.loop-k.invariant.rest

pub loop-k-preserved : goal.loop-k-preserved
loop-k-preserved g c =
    let base = c.args.base in
    let k = c.loop-k.k in
    let inv = c.loop-k.invariant in
    let seen = (g.D.Disk.moment c.args.disk.now).seen in
    let now = (g.D.Disk.moment c.loop-k.disk).seen in
    let tables = c.args.tables.now in
    let numbers = c.loop-k.numbers in
    let part = c.read_table.new.numbers in
    let w = 60 + 512 * k + 512 - (60 + 512 * k) in
    let few : k < content_tables_max = omega (arith, c.loop-k-test.true, c.requires.few) in
    let wide : 60 + 512 * k + 512 - (60 + 512 * k) ≡ table_pages = omega arith in
    let long = c.read_table.ensures.count in
    let bytes : bytes_at seen (table_at base (get_or tables k 0)) 1024 ≡ table_bytes part =
    ap (λ (l : List ℕ). bytes_at l (table_at base (get_or tables k 0)) 1024) (sym inv.seen) ∙ ap (λ (p : ℕ). bytes_at now p 1024) (sym c.table_at.ensures) ∙ sym c.in_ok-read.ensures.bytes ∙ c.read_table.ensures.read in
    let all = with_table k w numbers part in
    record {
      count = long_with k w numbers part few wide inv.count long;
      fits = λ i. omega (arith, c.type_inv.numbers i);
      first = first_with k w numbers part few wide inv.count long ∙ inv.first;
      read = λ t lt. ⊎_elim
          (λ (below : t < k). inv.read t below ∙ ap table_bytes (sym (under_before k w numbers part few wide inv.count long t below)))
          (λ (above : k ≤ t).
          let here : k ≡ t = omega (arith, lt, above) in
          subst (λ (n : ℕ). bytes_at seen (table_at base (get_or tables n 0)) 1024 ≡ table_bytes (numbers_under all n)) here (bytes ∙ ap table_bytes (sym (under_here k w numbers part few wide inv.count long))))
          (cases_lt t k);
      rest = rest_with k w numbers part few wide inv.count long ∙ drop_further (slot_pages + table_pages * k) (slot_pages + table_pages * (k + 1)) numbers c.args.numbers.now (omega arith) inv.rest;
      seen = c.in_ok-read.ensures.seen ∙ inv.seen;
      goes = goes_same g.D.Disk.moment c.args.disk.now c.loop-k.disk c.read.new.self inv.goes c.read.ensures.crash;
      cause = omega (arith, inv.cause, c.read.ensures.cause.later);
      tells = reads_join (g.D.Disk.moment c.args.disk.now).passing (g.D.Disk.moment c.loop-k.disk).passing (g.D.Disk.moment c.read.new.self).passing (Ok tt) inv.tells c.in_ok-read.ensures.tells;
      how = c.read.ensures.cut.how ∙ inv.how;
    }
