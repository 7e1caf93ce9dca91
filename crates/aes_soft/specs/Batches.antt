-- How many S-box layers it takes to process a slice of blocks.
use Rattle.std.specs.Prelude.{ℕ, ◌+◌, ◌*◌, ◌/◌, ◌%◌}

-- the blocks of a batch
abbrev pub batch_blocks : ℕ
batch_blocks = 8

-- the layers of n blocks with that many rounds each: whole batches first, then single blocks
abbrev pub layers_for : ℕ → ℕ → ℕ
layers_for rounds n = rounds * (n / batch_blocks + n % batch_blocks)
