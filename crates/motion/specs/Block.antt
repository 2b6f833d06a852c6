-- Planes and blocks at a level.
use Rattle.std.specs.Prelude.{ℕ, ◌+◌, ◌-◌, ◌*◌, ◌/◌, ◌^◌, min}
use Rattle.motion.specs.declared.level.Level.{Level}
use Rattle.motion.specs.declared.block.Plane.{Plane}
use Rattle.motion.specs.declared.block.Block.{Block}
use Rattle.motion.specs.Limits.{cell_side}
use Rattle.motion.specs.Range.{range_of}

-- a plane at shift s has stride (W>>s)+2P and (H>>s)+2P rows
unfoldable pub plane_of : ℕ → ℕ → Level → Plane
plane_of width height l =
    record {
      stride = width / 2 ^ l.ssdec + 2 * l.pad;
      rows = height / 2 ^ l.ssdec + 2 * l.pad;
      pad = l.pad;
    }

-- a block's side in full-size pixels, cropped at the frame edge
unfoldable pub cropped_to : (side size b : ℕ) → ℕ
cropped_to side size b = min size (side - cell_side * b)

-- the block of `size` pixels at cell (bx, by): at shift s it is bw>>s by bh>>s, with the range of bw by bh; its rates weigh nothing
unfoldable pub block_of : (width height : ℕ) (l : Level) (size bx by : ℕ) → Block
block_of width height l size bx by =
    record {
      po_x = cell_side * bx / 2 ^ l.ssdec;
      po_y = cell_side * by / 2 ^ l.ssdec;
      w = cropped_to width size bx / 2 ^ l.ssdec;
      h = cropped_to height size by / 2 ^ l.ssdec;
      stride = (plane_of width height l).stride;
      pad = l.pad;
      range =
          range_of (width / cell_side) (height / cell_side) bx by (cropped_to width size bx) (cropped_to height size by) l.ssdec;
      weight = 0;
    }

-- the same block at another weight
abbrev pub weighed : Block → ℕ → Block
weighed b weight =
    record {
      po_x = b.po_x;
      po_y = b.po_y;
      w = b.w;
      h = b.h;
      stride = b.stride;
      pad = b.pad;
      range = b.range;
      weight = weight;
    }
