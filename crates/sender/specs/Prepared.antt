-- An image, the parity words of its blocks, and what prepare does.
use Rattle.std.specs.Prelude.{ℕ, ◌+◌, ◌*◌, ◌<◌, List, Option}
use Rattle.std.specs.List.{between}
use Rattle.refusal.specs.Numbers.{or_else}
use Rattle.layout.specs.declared.shape.Shape.{Shape}
use Rattle.layout.specs.Sizes.{parity_of, packet_of, Packets}
use Rattle.layout.specs.Blocks.{code_of}
use Rattle.layout.specs.Checks.{width_refusal, run_refusal}
use Rattle.code.specs.Calls.{Encoded}

-- part i of a run of parts of so many words
abbrev pub part : ℕ → List ℕ → ℕ → List ℕ
part words run i = between (i * words) (i * words + words) run

-- the first run, image or parity words, that has not the packets of all blocks is refused by its place
abbrev pub runs_refusal : Shape → List ℕ → List ℕ → Option (ℕ × List ℕ)
runs_refusal s image parity =
    or_else (run_refusal s (s.blocks * s.sources) image 0) (run_refusal s (s.blocks * parity_of s) parity 1)

abbrev pub prepare_refusal : ℕ → Shape → List ℕ → List ℕ → Option (ℕ × List ℕ)
prepare_refusal bits s image parity = or_else (width_refusal bits s) (runs_refusal s image parity)

-- the first n blocks have the parity that makes them codewords
abbrev pub Prepared : Shape → (ℕ → ℕ → ℕ) → List ℕ → List ℕ → ℕ → Type 0
Prepared s prod image parity n =
    (b : ℕ) → b < n → Encoded (code_of s prod) (part (s.sources * packet_of s) image b) (part (parity_of s * packet_of s) parity b)

-- the parity run is that of all blocks, and every block has the parity that makes it a codeword
abbrev pub AllPrepared : Shape → (ℕ → ℕ → ℕ) → List ℕ → List ℕ → Type 0
AllPrepared s prod image parity = Packets s (s.blocks * parity_of s) parity × Prepared s prod image parity s.blocks
