-- A mend that puts a join in the place of a content.
use Rattle.std.proofs.Common.{◌≡◌, ℕ, ◌<◌, ◌≤◌, Bool, true, false, not, cond, ◌||◌, nat_lt, List, length, Some, refl, sym, ap, ◌∙◌, arith}
use Rattle.std.specs.Str.{bytes_eq}
use Rattle.std.proofs.lemmas.Bool.Decides.{nat_tests}
use Rattle.locus_ids.specs.Sizes.{directory_bytes_max}
use Rattle.locus_ids.specs.declared.refusal.Refusal.TheVariants.{NoSpace, TooLong}
use Rattle.trace_book.specs.declared.operation.Outcome.TheVariants as outcome
use Rattle.file_content.specs.Pages.{pages_needed, pages_replaced}
use Rattle.file_effects.specs.Effects.{Effect, Mends, effect, mends, tells}
use Rattle.file_effects.specs.Works.{carried_out, counted, result_in}
use Rattle.file_effects.specs.declared.work.Work.{Work}
use Rattle.operation_effects.specs.Settling.{worked, worked_so}
use Rattle.operation_effects.proofs.Judged.{refused_so, done_so, few_replaced}
use Rattle.audit_tree.specs.Acting.{put_effect}

module _ (free : ℕ) (w new : Work) (several : Bool) (joined : List ℕ) where
  abbrev pub counts : Bool
  counts = several || not (bytes_eq joined w.content)

  puts_long : directory_bytes_max < length joined → mends w.content several joined ≡ tells w.content (outcome.No TooLong)
  puts_long h =
      let over : nat_lt directory_bytes_max (length joined) ≡ true = grind (arith, nat_tests) in
      ap (λ (b : Bool). cond b (tells w.content (outcome.No TooLong)) (put_effect joined (pages_replaced w.content joined) counts)) over

  puts_short : length joined ≤ directory_bytes_max → mends w.content several joined ≡ put_effect joined (pages_replaced w.content joined) counts
  puts_short h =
      let over : nat_lt directory_bytes_max (length joined) ≡ false = grind (arith, nat_tests) in
      ap (λ (b : Bool). cond b (tells w.content (outcome.No TooLong)) (put_effect joined (pages_replaced w.content joined) counts)) over

  pub too_long_so : directory_bytes_max < length joined → new ≡ counted w → worked_so (Some (outcome.No TooLong)) new ≡ worked free w (effect (Mends several joined) w.content)
  too_long_so h left = refused_so free w new (tells w.content (outcome.No TooLong)) (outcome.No TooLong) refl refl left ∙ ap (λ (e : Effect). worked free w (Some e)) (sym (puts_long h))

  pub no_room_so : (needed : ℕ) (pages : List ℕ) → length joined ≤ directory_bytes_max → pages ≡ pages_replaced w.content joined → needed ≡ pages_needed pages w.changed → free < needed → new ≡ counted w
      → worked_so (Some (outcome.No (NoSpace needed free))) new ≡ worked free w (effect (Mends several joined) w.content)
  no_room_so needed pages h is are lacks left =
      let lack : nat_lt free needed ≡ true = grind (arith, nat_tests) in
      let gives : outcome.No (NoSpace needed free) ≡ result_in free w.changed (put_effect joined (pages_replaced w.content joined) counts) =
      ap (λ (b : Bool). cond b (outcome.No (NoSpace needed free)) outcome.Done) (sym lack)
      ∙ ap (λ (n : ℕ). cond (nat_lt free n) (outcome.No (NoSpace n free)) outcome.Done) (are ∙ ap (λ ps. pages_needed ps w.changed) is) in
      refused_so free w new (put_effect joined (pages_replaced w.content joined) counts) (outcome.No (NoSpace needed free)) gives refl left ∙ ap (λ (e : Effect). worked free w (Some e)) (sym (puts_short h))

  pub put_so : (needed : ℕ) (pages : List ℕ) (c : Bool) → length joined ≤ directory_bytes_max → pages ≡ pages_replaced w.content joined → needed ≡ pages_needed pages w.changed → needed ≤ free → c ≡ counts → new ≡ carried_out (put_effect joined pages c) w
      → worked_so (Some outcome.Done) new ≡ worked free w (effect (Mends several joined) w.content)
  put_so needed pages c h is are fits same left =
      let room : nat_lt free needed ≡ false = grind (arith, nat_tests) in
      let gives : outcome.Done ≡ result_in free w.changed (put_effect joined (pages_replaced w.content joined) counts) =
      ap (λ (b : Bool). cond b (outcome.No (NoSpace needed free)) outcome.Done) (sym room)
      ∙ ap (λ (n : ℕ). cond (nat_lt free n) (outcome.No (NoSpace n free)) outcome.Done) (are ∙ ap (λ ps. pages_needed ps w.changed) is) in
      let made : new ≡ carried_out (put_effect joined (pages_replaced w.content joined) counts) w = left ∙ ap (λ ps. carried_out (put_effect joined ps c) w) is ∙ ap (λ (b : Bool). carried_out (put_effect joined (pages_replaced w.content joined) b) w) same in
      done_so free w new (put_effect joined (pages_replaced w.content joined) counts) outcome.Done gives refl made ∙ ap (λ (e : Effect). worked free w (Some e)) (sym (puts_short h))

pub few_pages : (old new pages : List ℕ) → pages ≡ pages_replaced old new → length new ≤ directory_bytes_max → length pages ≤ 65535
few_pages old new pages is h = rw is (few_replaced old new h)
