-- Worked examples of the rules: scripts of steps, computed by the definitions of crate `model`,
-- with the outcome of every step and some states afterwards. Also what programs see of one run, by
-- the definitions of this crate.
mod Rows
mod ObjectRows
mod LinkRows
mod Words
mod MarkRows
mod CycleRows
mod NextRows
mod SweepRows
mod ReclaimRows
mod RingRows
mod ShadingRows
mod TurnRows
mod LimitRows
mod GarbageRows
mod SightRows
mod LetterRows
