use Rattle.std.proofs.Common.{◌≡◌, ◌+◌, ◌-◌, ℕ, List, false, length, take, drop, subst, sym, ap, ◌∙◌, arith}
use Rattle.std.specs.Int.{from_be_bytes, w16, w32}
use Rattle.std.proofs.lemmas.List.{length-drop, take_all}
use Rattle.locus_ids.specs.Sizes.{sites_max}
use Rattle.dir_format.specs.Contents.{count_at, counters}
use Rattle.site_mends.specs.Scanning.{is_missed}
use Rattle.site_mends.proofs.Live.{even_count, first_split}
use Rattle.site_mends.proofs.scanning.behind_seen.Goals as goal

pub returns : goal.returns
returns c =
    let n = c.from-name.result in
    let bytes = c.args.bytes.now in
    let rest = take (length bytes - 1) (drop 1 bytes) in
    let vector = take_all (length rest - (n + 7)) (drop (n + 7) rest) (omega (arith, length-drop (n + 7) rest)) in
    let count : c.count_of.result ≡ count_at n rest = c.count_of.ensures ∙ ap (λ k. from_be_bytes w32 (take k (drop (n + 3) rest))) {x = n + 7 - (n + 3)} {y = 4} (omega arith) in
    let ino : c.ino_of.result ≡ from_be_bytes w16 (take 2 (drop n rest)) = c.ino_of.ensures ∙ ap (λ k. from_be_bytes w16 (take k (drop n rest))) {x = n + 2 - n} {y = 2} (omega arith) in
    record {
      named = n;
      rest = rest;
      split = first_split bytes n c.in-len1-up.len_at_least c.from-name.ensures;
      removed = even_count c.count_of.result (count_at n rest) count c.if-count_of-eq1.false;
      seen = subst (λ (bs : List ℕ). is_missed c.args.kept.now (from_be_bytes w16 (take 2 (drop n rest))) (counters sites_max bs) ≡ false) vector
          (subst (λ (k : ℕ). is_missed c.args.kept.now k (counters sites_max (take (length rest - (n + 7)) (drop (n + 7) rest))) ≡ false) ino (sym c.is_missed.ensures ∙ c.if-is_missed.false));
      behind = take_all (length rest - (n + 71)) (drop (n + 71) rest) (omega (arith, length-drop (n + 71) rest));
    }
