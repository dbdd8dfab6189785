-- What a read for C through a table reports: the definition's answer. It changes neither image nor table.
use Rattle.std.specs.Prelude.{◌≡◌, ℕ, length, get_or}
use Rattle.std.proofs.Common.{sym, ap, subst, ◌∙◌}
use Rattle.rules.specs.Flash.{Bytes}
use Rattle.rules.specs.Table.{Table, mark, read_through}
use Rattle.rules.specs.declared.Geometry.{Geometry}
use Rattle.rules.specs.declared.TableEntry.{TableEntry}
use Rattle.c_report.specs.Exported.{exported}
use Rattle.c_report.specs.declared.Report.{Report}
use Rattle.table_read.specs.Reads.{Reads, read_through_lem}
use Rattle.c_table.specs.Blank.{blank, mark_is}

pub record ShowsThrough (g : Geometry) (f : ℕ) (s : Bytes) (t : Table) (r : Report) : Type 0 where
  pub report : r ≡ exported (read_through g s t f).answer

pub shows_through : (g : Geometry) (f : ℕ) (s : Bytes) (t : Table) (x y : TableEntry) (r : Report) → x ≡ get_or t 0 blank → y ≡ get_or t f blank → Reads g s (length t) x y f r → ShowsThrough g f s t r
shows_through g f s t x y r p q h =
    let a : x ≡ get_or t 0 mark = p ∙ ap (λ (m : TableEntry). get_or t 0 m) (sym mark_is) in
    let b : y ≡ get_or t f mark = q ∙ ap (λ (m : TableEntry). get_or t f m) (sym mark_is) in
    record { report = read_through_lem g s t f r (subst (λ (z : TableEntry). Reads g s (length t) (get_or t 0 mark) z f r) b (subst (λ (z : TableEntry). Reads g s (length t) z y f r) a h)) }
