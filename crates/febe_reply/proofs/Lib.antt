mod CountScans
mod ItemScans
mod DiagonalScans
mod ReplyLaws
mod ReplyScans
