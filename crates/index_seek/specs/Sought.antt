-- What is sought of one file, and what the code makes of one descriptor.
use Rattle.std.specs.Prelude.{◌≡◌, cond, ◌&&◌, ℕ, eqb}
use Rattle.rules.specs.Lists.{first}
use Rattle.rules.specs.Flash.{Bytes}
use Rattle.rules.specs.Unit.{Descriptor, is_open, is_pending_file, is_current_file, file_of}
use Rattle.rules.specs.Settled.{survey, select}
use Rattle.rules.specs.Views.{committed_view, transaction_view}
use Rattle.rules.specs.Jobs.{earlier_of}
use Rattle.rules.specs.declared.Geometry.{Geometry}
use Rattle.index.specs.Shapes.{place_of, once}
use Rattle.index_seek.specs.declared.Sought.{Sought}
use Rattle.index_seek.specs.declared.Seeker.{Seeker}

-- The places that the calls by file ask for, of file f.
pub record Seeks (g : Geometry) (s : Bytes) (f : ℕ) (r : Sought) : Type 0 where
  pub opened : r.opened ≡ place_of (first (select is_open (survey g s)))
  pub current : r.current ≡ place_of (committed_view f (survey g s))
  pub pending : r.pending ≡ place_of (first (earlier_of f (survey g s)))
  pub shown : r.shown ≡ place_of (transaction_view f (survey g s))

-- the descriptor d that stands at a
unfoldable pub seek_one : ℕ → Descriptor → Seeker → Seeker
seek_one a d x =
    record {
      file = x.file;
      opened = cond (is_open d) (once x.opened a) x.opened;
      current = cond (is_current_file d && eqb (file_of d) x.file) (once x.current a) x.current;
      pending = cond (is_pending_file d && eqb (file_of d) x.file) (once x.pending a) x.pending;
    }

-- nothing is found yet of file f
abbrev pub none_sought : ℕ → Seeker
none_sought f = record { file = f; opened = 0; current = 0; pending = 0 }
