-- Where the next bytes of an output go.
use Rattle.std.specs.Prelude.{◌≡◌, ℕ, ◌+◌, List, length}
use Rattle.records.specs.Places.{put}
use Rattle.writer.specs.declared.Cursor.{Cursor}

-- `bytes` were written where the cursor stood, and it stands behind them: every other byte is as before
pub record Puts (old new : Cursor) (bytes : List ℕ) : Type 0 where
  pub same_output : new.out.ghost_name ≡ old.out.ghost_name
  pub written : new.out.now ≡ put old.at bytes old.out.now
  pub end : new.at ≡ old.at + length bytes
